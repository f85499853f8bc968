-- Made from tables/names.txt by tools/names.py.
use Rattle.std.proofs.Common.{◌≡◌, ℕ, suc, ◌+◌, true, Some, List, [], ◌∷◌, length, refl, nat_le}
use Rattle.std.specs.Prelude.{⊤, slice_range}
use Rattle.std.specs.List.{list_all}
use Rattle.rip_values.specs.declared.fixed.FixedText.{FixedText}
use Rattle.rip_values.specs.declared.fixed.FixedText.TheVariants.{Empty, Undefined, Null, True, False, NaN, Object, Boolean, Number, String, Function, Error, TypeError, RangeError, ReferenceError, HasOwnProperty, Constructor, ToString, ToLocaleString, ValueOf, IsPrototypeOf, PropertyIsEnumerable, Prototype, Call, Name, Message, Length, Push, Pop, Slice, IndexOf, Join, CharAt, CharCodeAt, Substring, Abs, Floor, Min, Max, Now, Random, GetElementById, CreateElement, CreateTextNode, Body, DocumentElement, NodeType, NodeName, TagName, NodeValue, ParentNode, FirstChild, LastChild, NextSibling, PreviousSibling, HasChildNodes, AppendChild, InsertBefore, ReplaceChild, RemoveChild, TextContent, GetAttribute, HasAttribute, SetAttribute, RemoveAttribute, Id, ClassName, Value, Checked, SelectedIndex, Disabled, AddEventListener, RemoveEventListener, Code, EventType, Target, CurrentTarget, EventPhase, Bubbles, Cancelable, StopPropagation, PreventDefault, Click, Submit, Input, Change, Focus, Blur, Load, TextName, CommentName, DocumentName, On}
use Rattle.rip_values.specs.FixedTable.{text_of, fixed_texts, fixed_size, longest_fixed, start_of}
use Rattle.rip_values.specs.FixedTexts.{fixed_units, fixed_span}
use Rattle.rip_values.specs.FixedSearch.{texts_of_length, fixed_text}

-- the search finds each fixed text by its spelling
pub fixed_text-text_of : (fixed : FixedText) → fixed_text (text_of fixed) ≡ Some fixed
unfolding fixed_text texts_of_length fixed_texts
fixed_text-text_of Empty = refl
fixed_text-text_of Undefined = refl
fixed_text-text_of Null = refl
fixed_text-text_of True = refl
fixed_text-text_of False = refl
fixed_text-text_of NaN = refl
fixed_text-text_of Object = refl
fixed_text-text_of Boolean = refl
fixed_text-text_of Number = refl
fixed_text-text_of String = refl
fixed_text-text_of Function = refl
fixed_text-text_of Error = refl
fixed_text-text_of TypeError = refl
fixed_text-text_of RangeError = refl
fixed_text-text_of ReferenceError = refl
fixed_text-text_of HasOwnProperty = refl
fixed_text-text_of Constructor = refl
fixed_text-text_of ToString = refl
fixed_text-text_of ToLocaleString = refl
fixed_text-text_of ValueOf = refl
fixed_text-text_of IsPrototypeOf = refl
fixed_text-text_of PropertyIsEnumerable = refl
fixed_text-text_of Prototype = refl
fixed_text-text_of Call = refl
fixed_text-text_of Name = refl
fixed_text-text_of Message = refl
fixed_text-text_of Length = refl
fixed_text-text_of Push = refl
fixed_text-text_of Pop = refl
fixed_text-text_of Slice = refl
fixed_text-text_of IndexOf = refl
fixed_text-text_of Join = refl
fixed_text-text_of CharAt = refl
fixed_text-text_of CharCodeAt = refl
fixed_text-text_of Substring = refl
fixed_text-text_of Abs = refl
fixed_text-text_of Floor = refl
fixed_text-text_of Min = refl
fixed_text-text_of Max = refl
fixed_text-text_of Now = refl
fixed_text-text_of Random = refl
fixed_text-text_of GetElementById = refl
fixed_text-text_of CreateElement = refl
fixed_text-text_of CreateTextNode = refl
fixed_text-text_of Body = refl
fixed_text-text_of DocumentElement = refl
fixed_text-text_of NodeType = refl
fixed_text-text_of NodeName = refl
fixed_text-text_of TagName = refl
fixed_text-text_of NodeValue = refl
fixed_text-text_of ParentNode = refl
fixed_text-text_of FirstChild = refl
fixed_text-text_of LastChild = refl
fixed_text-text_of NextSibling = refl
fixed_text-text_of PreviousSibling = refl
fixed_text-text_of HasChildNodes = refl
fixed_text-text_of AppendChild = refl
fixed_text-text_of InsertBefore = refl
fixed_text-text_of ReplaceChild = refl
fixed_text-text_of RemoveChild = refl
fixed_text-text_of TextContent = refl
fixed_text-text_of GetAttribute = refl
fixed_text-text_of HasAttribute = refl
fixed_text-text_of SetAttribute = refl
fixed_text-text_of RemoveAttribute = refl
fixed_text-text_of Id = refl
fixed_text-text_of ClassName = refl
fixed_text-text_of Value = refl
fixed_text-text_of Checked = refl
fixed_text-text_of SelectedIndex = refl
fixed_text-text_of Disabled = refl
fixed_text-text_of AddEventListener = refl
fixed_text-text_of RemoveEventListener = refl
fixed_text-text_of Code = refl
fixed_text-text_of EventType = refl
fixed_text-text_of Target = refl
fixed_text-text_of CurrentTarget = refl
fixed_text-text_of EventPhase = refl
fixed_text-text_of Bubbles = refl
fixed_text-text_of Cancelable = refl
fixed_text-text_of StopPropagation = refl
fixed_text-text_of PreventDefault = refl
fixed_text-text_of Click = refl
fixed_text-text_of Submit = refl
fixed_text-text_of Input = refl
fixed_text-text_of Change = refl
fixed_text-text_of Focus = refl
fixed_text-text_of Blur = refl
fixed_text-text_of Load = refl
fixed_text-text_of TextName = refl
fixed_text-text_of CommentName = refl
fixed_text-text_of DocumentName = refl
fixed_text-text_of On = refl

-- each fixed text has its place in the table
pub fixed_span-text_of : (fixed : FixedText) → fixed_span (text_of fixed) ≡ Some (record { start = start_of fixed; count = length (text_of fixed) })
unfolding fixed_span fixed_texts
fixed_span-text_of Empty = refl
fixed_span-text_of Undefined = refl
fixed_span-text_of Null = refl
fixed_span-text_of True = refl
fixed_span-text_of False = refl
fixed_span-text_of NaN = refl
fixed_span-text_of Object = refl
fixed_span-text_of Boolean = refl
fixed_span-text_of Number = refl
fixed_span-text_of String = refl
fixed_span-text_of Function = refl
fixed_span-text_of Error = refl
fixed_span-text_of TypeError = refl
fixed_span-text_of RangeError = refl
fixed_span-text_of ReferenceError = refl
fixed_span-text_of HasOwnProperty = refl
fixed_span-text_of Constructor = refl
fixed_span-text_of ToString = refl
fixed_span-text_of ToLocaleString = refl
fixed_span-text_of ValueOf = refl
fixed_span-text_of IsPrototypeOf = refl
fixed_span-text_of PropertyIsEnumerable = refl
fixed_span-text_of Prototype = refl
fixed_span-text_of Call = refl
fixed_span-text_of Name = refl
fixed_span-text_of Message = refl
fixed_span-text_of Length = refl
fixed_span-text_of Push = refl
fixed_span-text_of Pop = refl
fixed_span-text_of Slice = refl
fixed_span-text_of IndexOf = refl
fixed_span-text_of Join = refl
fixed_span-text_of CharAt = refl
fixed_span-text_of CharCodeAt = refl
fixed_span-text_of Substring = refl
fixed_span-text_of Abs = refl
fixed_span-text_of Floor = refl
fixed_span-text_of Min = refl
fixed_span-text_of Max = refl
fixed_span-text_of Now = refl
fixed_span-text_of Random = refl
fixed_span-text_of GetElementById = refl
fixed_span-text_of CreateElement = refl
fixed_span-text_of CreateTextNode = refl
fixed_span-text_of Body = refl
fixed_span-text_of DocumentElement = refl
fixed_span-text_of NodeType = refl
fixed_span-text_of NodeName = refl
fixed_span-text_of TagName = refl
fixed_span-text_of NodeValue = refl
fixed_span-text_of ParentNode = refl
fixed_span-text_of FirstChild = refl
fixed_span-text_of LastChild = refl
fixed_span-text_of NextSibling = refl
fixed_span-text_of PreviousSibling = refl
fixed_span-text_of HasChildNodes = refl
fixed_span-text_of AppendChild = refl
fixed_span-text_of InsertBefore = refl
fixed_span-text_of ReplaceChild = refl
fixed_span-text_of RemoveChild = refl
fixed_span-text_of TextContent = refl
fixed_span-text_of GetAttribute = refl
fixed_span-text_of HasAttribute = refl
fixed_span-text_of SetAttribute = refl
fixed_span-text_of RemoveAttribute = refl
fixed_span-text_of Id = refl
fixed_span-text_of ClassName = refl
fixed_span-text_of Value = refl
fixed_span-text_of Checked = refl
fixed_span-text_of SelectedIndex = refl
fixed_span-text_of Disabled = refl
fixed_span-text_of AddEventListener = refl
fixed_span-text_of RemoveEventListener = refl
fixed_span-text_of Code = refl
fixed_span-text_of EventType = refl
fixed_span-text_of Target = refl
fixed_span-text_of CurrentTarget = refl
fixed_span-text_of EventPhase = refl
fixed_span-text_of Bubbles = refl
fixed_span-text_of Cancelable = refl
fixed_span-text_of StopPropagation = refl
fixed_span-text_of PreventDefault = refl
fixed_span-text_of Click = refl
fixed_span-text_of Submit = refl
fixed_span-text_of Input = refl
fixed_span-text_of Change = refl
fixed_span-text_of Focus = refl
fixed_span-text_of Blur = refl
fixed_span-text_of Load = refl
fixed_span-text_of TextName = refl
fixed_span-text_of CommentName = refl
fixed_span-text_of DocumentName = refl
fixed_span-text_of On = refl

-- each fixed text stands where it begins
pub stands_at : (fixed : FixedText) → slice_range fixed_units (start_of fixed) (start_of fixed + length (text_of fixed)) ≡ text_of fixed
unfolding fixed_units fixed_texts
stands_at Empty = refl
stands_at Undefined = refl
stands_at Null = refl
stands_at True = refl
stands_at False = refl
stands_at NaN = refl
stands_at Object = refl
stands_at Boolean = refl
stands_at Number = refl
stands_at String = refl
stands_at Function = refl
stands_at Error = refl
stands_at TypeError = refl
stands_at RangeError = refl
stands_at ReferenceError = refl
stands_at HasOwnProperty = refl
stands_at Constructor = refl
stands_at ToString = refl
stands_at ToLocaleString = refl
stands_at ValueOf = refl
stands_at IsPrototypeOf = refl
stands_at PropertyIsEnumerable = refl
stands_at Prototype = refl
stands_at Call = refl
stands_at Name = refl
stands_at Message = refl
stands_at Length = refl
stands_at Push = refl
stands_at Pop = refl
stands_at Slice = refl
stands_at IndexOf = refl
stands_at Join = refl
stands_at CharAt = refl
stands_at CharCodeAt = refl
stands_at Substring = refl
stands_at Abs = refl
stands_at Floor = refl
stands_at Min = refl
stands_at Max = refl
stands_at Now = refl
stands_at Random = refl
stands_at GetElementById = refl
stands_at CreateElement = refl
stands_at CreateTextNode = refl
stands_at Body = refl
stands_at DocumentElement = refl
stands_at NodeType = refl
stands_at NodeName = refl
stands_at TagName = refl
stands_at NodeValue = refl
stands_at ParentNode = refl
stands_at FirstChild = refl
stands_at LastChild = refl
stands_at NextSibling = refl
stands_at PreviousSibling = refl
stands_at HasChildNodes = refl
stands_at AppendChild = refl
stands_at InsertBefore = refl
stands_at ReplaceChild = refl
stands_at RemoveChild = refl
stands_at TextContent = refl
stands_at GetAttribute = refl
stands_at HasAttribute = refl
stands_at SetAttribute = refl
stands_at RemoveAttribute = refl
stands_at Id = refl
stands_at ClassName = refl
stands_at Value = refl
stands_at Checked = refl
stands_at SelectedIndex = refl
stands_at Disabled = refl
stands_at AddEventListener = refl
stands_at RemoveEventListener = refl
stands_at Code = refl
stands_at EventType = refl
stands_at Target = refl
stands_at CurrentTarget = refl
stands_at EventPhase = refl
stands_at Bubbles = refl
stands_at Cancelable = refl
stands_at StopPropagation = refl
stands_at PreventDefault = refl
stands_at Click = refl
stands_at Submit = refl
stands_at Input = refl
stands_at Change = refl
stands_at Focus = refl
stands_at Blur = refl
stands_at Load = refl
stands_at TextName = refl
stands_at CommentName = refl
stands_at DocumentName = refl
stands_at On = refl

-- and ends among the fixed texts
pub lies_within : (fixed : FixedText) → nat_le (start_of fixed + length (text_of fixed)) fixed_size ≡ true
lies_within Empty = refl
lies_within Undefined = refl
lies_within Null = refl
lies_within True = refl
lies_within False = refl
lies_within NaN = refl
lies_within Object = refl
lies_within Boolean = refl
lies_within Number = refl
lies_within String = refl
lies_within Function = refl
lies_within Error = refl
lies_within TypeError = refl
lies_within RangeError = refl
lies_within ReferenceError = refl
lies_within HasOwnProperty = refl
lies_within Constructor = refl
lies_within ToString = refl
lies_within ToLocaleString = refl
lies_within ValueOf = refl
lies_within IsPrototypeOf = refl
lies_within PropertyIsEnumerable = refl
lies_within Prototype = refl
lies_within Call = refl
lies_within Name = refl
lies_within Message = refl
lies_within Length = refl
lies_within Push = refl
lies_within Pop = refl
lies_within Slice = refl
lies_within IndexOf = refl
lies_within Join = refl
lies_within CharAt = refl
lies_within CharCodeAt = refl
lies_within Substring = refl
lies_within Abs = refl
lies_within Floor = refl
lies_within Min = refl
lies_within Max = refl
lies_within Now = refl
lies_within Random = refl
lies_within GetElementById = refl
lies_within CreateElement = refl
lies_within CreateTextNode = refl
lies_within Body = refl
lies_within DocumentElement = refl
lies_within NodeType = refl
lies_within NodeName = refl
lies_within TagName = refl
lies_within NodeValue = refl
lies_within ParentNode = refl
lies_within FirstChild = refl
lies_within LastChild = refl
lies_within NextSibling = refl
lies_within PreviousSibling = refl
lies_within HasChildNodes = refl
lies_within AppendChild = refl
lies_within InsertBefore = refl
lies_within ReplaceChild = refl
lies_within RemoveChild = refl
lies_within TextContent = refl
lies_within GetAttribute = refl
lies_within HasAttribute = refl
lies_within SetAttribute = refl
lies_within RemoveAttribute = refl
lies_within Id = refl
lies_within ClassName = refl
lies_within Value = refl
lies_within Checked = refl
lies_within SelectedIndex = refl
lies_within Disabled = refl
lies_within AddEventListener = refl
lies_within RemoveEventListener = refl
lies_within Code = refl
lies_within EventType = refl
lies_within Target = refl
lies_within CurrentTarget = refl
lies_within EventPhase = refl
lies_within Bubbles = refl
lies_within Cancelable = refl
lies_within StopPropagation = refl
lies_within PreventDefault = refl
lies_within Click = refl
lies_within Submit = refl
lies_within Input = refl
lies_within Change = refl
lies_within Focus = refl
lies_within Blur = refl
lies_within Load = refl
lies_within TextName = refl
lies_within CommentName = refl
lies_within DocumentName = refl
lies_within On = refl

-- the fixed texts of each length from 0 on, and that they are: `IsByLength` tells it of lists from a length on
abbrev pub by_length : List (List FixedText)
by_length =
    (Empty ∷ []) ∷
    ([]) ∷
    (Id ∷ On ∷ []) ∷
    (NaN ∷ Pop ∷ Abs ∷ Min ∷ Max ∷ Now ∷ []) ∷
    (Null ∷ True ∷ Call ∷ Name ∷ Push ∷ Join ∷ Body ∷ Code ∷ EventType ∷ Blur ∷ Load ∷ []) ∷
    (False ∷ Error ∷ Slice ∷ Floor ∷ Value ∷ Click ∷ Input ∷ Focus ∷ TextName ∷ []) ∷
    (Object ∷ Number ∷ String ∷ Length ∷ CharAt ∷ Random ∷ Target ∷ Submit ∷ Change ∷ []) ∷
    (Boolean ∷ ValueOf ∷ Message ∷ IndexOf ∷ TagName ∷ Checked ∷ Bubbles ∷ []) ∷
    (Function ∷ ToString ∷ NodeType ∷ NodeName ∷ Disabled ∷ CommentName ∷ []) ∷
    (Undefined ∷ TypeError ∷ Prototype ∷ Substring ∷ NodeValue ∷ LastChild ∷ ClassName ∷ DocumentName ∷ []) ∷
    (RangeError ∷ CharCodeAt ∷ ParentNode ∷ FirstChild ∷ EventPhase ∷ Cancelable ∷ []) ∷
    (Constructor ∷ NextSibling ∷ AppendChild ∷ RemoveChild ∷ TextContent ∷ []) ∷
    (InsertBefore ∷ ReplaceChild ∷ GetAttribute ∷ HasAttribute ∷ SetAttribute ∷ []) ∷
    (IsPrototypeOf ∷ CreateElement ∷ HasChildNodes ∷ SelectedIndex ∷ CurrentTarget ∷ []) ∷
    (ReferenceError ∷ HasOwnProperty ∷ ToLocaleString ∷ GetElementById ∷ CreateTextNode ∷ PreventDefault ∷ []) ∷
    (DocumentElement ∷ PreviousSibling ∷ RemoveAttribute ∷ StopPropagation ∷ []) ∷
    (AddEventListener ∷ []) ∷
    ([]) ∷
    ([]) ∷
    (RemoveEventListener ∷ []) ∷
    (PropertyIsEnumerable ∷ []) ∷
    []

abbrev pub IsByLength : ℕ → List (List FixedText) → Type 0
IsByLength n [] = ⊤
IsByLength n (texts ∷ longer) = (texts ≡ texts_of_length n) × IsByLength (suc n) longer

pub by_length_is : IsByLength 0 by_length
unfolding texts_of_length fixed_texts
by_length_is = (refl, (refl, (refl, (refl, (refl, (refl, (refl, (refl, (refl, (refl, (refl, (refl, (refl, (refl, (refl, (refl, (refl, (refl, (refl, (refl, (refl, tt)))))))))))))))))))))

-- no fixed text is longer than the longest
pub short_all : list_all (λ fixed. nat_le (length (text_of fixed)) longest_fixed) fixed_texts ≡ true
unfolding fixed_texts
short_all = refl

pub length-fixed_units : length fixed_units ≡ fixed_size
unfolding fixed_units fixed_texts
length-fixed_units = refl
