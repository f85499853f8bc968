-- Made from tables/names.txt by tools/names.py.
use Rattle.std.specs.Prelude.{ℕ, List, [], ◌∷◌, codes}
use Rattle.rip_values.specs.declared.fixed.FixedText.{FixedText}
use Rattle.rip_values.specs.declared.fixed.FixedText.TheVariants.{Empty, Undefined, Null, True, False, NaN, Object, Boolean, Number, String, Function, Error, TypeError, RangeError, ReferenceError, HasOwnProperty, Constructor, ToString, ToLocaleString, ValueOf, IsPrototypeOf, PropertyIsEnumerable, Prototype, Call, Name, Message, Length, Push, Pop, Slice, IndexOf, Join, CharAt, CharCodeAt, Substring, Abs, Floor, Min, Max, Now, Random, GetElementById, CreateElement, CreateTextNode, Body, DocumentElement, NodeType, NodeName, TagName, NodeValue, ParentNode, FirstChild, LastChild, NextSibling, PreviousSibling, HasChildNodes, AppendChild, InsertBefore, ReplaceChild, RemoveChild, TextContent, GetAttribute, HasAttribute, SetAttribute, RemoveAttribute, Id, ClassName, Value, Checked, SelectedIndex, Disabled, AddEventListener, RemoveEventListener, Code, EventType, Target, CurrentTarget, EventPhase, Bubbles, Cancelable, StopPropagation, PreventDefault, Click, Submit, Input, Change, Focus, Blur, Load, TextName, CommentName, DocumentName, On}

-- the table of the texts that stand in every pool at no charge
abbrev pub text_of : FixedText → List ℕ
text_of Empty = []
text_of Undefined = codes "undefined"
text_of Null = codes "null"
text_of True = codes "true"
text_of False = codes "false"
text_of NaN = codes "NaN"
text_of Object = codes "object"
text_of Boolean = codes "boolean"
text_of Number = codes "number"
text_of String = codes "string"
text_of Function = codes "function"
text_of Error = codes "Error"
text_of TypeError = codes "TypeError"
text_of RangeError = codes "RangeError"
text_of ReferenceError = codes "ReferenceError"
text_of HasOwnProperty = codes "hasOwnProperty"
text_of Constructor = codes "constructor"
text_of ToString = codes "toString"
text_of ToLocaleString = codes "toLocaleString"
text_of ValueOf = codes "valueOf"
text_of IsPrototypeOf = codes "isPrototypeOf"
text_of PropertyIsEnumerable = codes "propertyIsEnumerable"
text_of Prototype = codes "prototype"
text_of Call = codes "call"
text_of Name = codes "name"
text_of Message = codes "message"
text_of Length = codes "length"
text_of Push = codes "push"
text_of Pop = codes "pop"
text_of Slice = codes "slice"
text_of IndexOf = codes "indexOf"
text_of Join = codes "join"
text_of CharAt = codes "charAt"
text_of CharCodeAt = codes "charCodeAt"
text_of Substring = codes "substring"
text_of Abs = codes "abs"
text_of Floor = codes "floor"
text_of Min = codes "min"
text_of Max = codes "max"
text_of Now = codes "now"
text_of Random = codes "random"
text_of GetElementById = codes "getElementById"
text_of CreateElement = codes "createElement"
text_of CreateTextNode = codes "createTextNode"
text_of Body = codes "body"
text_of DocumentElement = codes "documentElement"
text_of NodeType = codes "nodeType"
text_of NodeName = codes "nodeName"
text_of TagName = codes "tagName"
text_of NodeValue = codes "nodeValue"
text_of ParentNode = codes "parentNode"
text_of FirstChild = codes "firstChild"
text_of LastChild = codes "lastChild"
text_of NextSibling = codes "nextSibling"
text_of PreviousSibling = codes "previousSibling"
text_of HasChildNodes = codes "hasChildNodes"
text_of AppendChild = codes "appendChild"
text_of InsertBefore = codes "insertBefore"
text_of ReplaceChild = codes "replaceChild"
text_of RemoveChild = codes "removeChild"
text_of TextContent = codes "textContent"
text_of GetAttribute = codes "getAttribute"
text_of HasAttribute = codes "hasAttribute"
text_of SetAttribute = codes "setAttribute"
text_of RemoveAttribute = codes "removeAttribute"
text_of Id = codes "id"
text_of ClassName = codes "className"
text_of Value = codes "value"
text_of Checked = codes "checked"
text_of SelectedIndex = codes "selectedIndex"
text_of Disabled = codes "disabled"
text_of AddEventListener = codes "addEventListener"
text_of RemoveEventListener = codes "removeEventListener"
text_of Code = codes "code"
text_of EventType = codes "type"
text_of Target = codes "target"
text_of CurrentTarget = codes "currentTarget"
text_of EventPhase = codes "eventPhase"
text_of Bubbles = codes "bubbles"
text_of Cancelable = codes "cancelable"
text_of StopPropagation = codes "stopPropagation"
text_of PreventDefault = codes "preventDefault"
text_of Click = codes "click"
text_of Submit = codes "submit"
text_of Input = codes "input"
text_of Change = codes "change"
text_of Focus = codes "focus"
text_of Blur = codes "blur"
text_of Load = codes "load"
text_of TextName = codes "#text"
text_of CommentName = codes "#comment"
text_of DocumentName = codes "#document"
text_of On = codes "on"

-- every fixed text, in the order in which they stand in a pool
unfoldable pub fixed_texts : List FixedText
fixed_texts =
    Empty ∷
    Undefined ∷ Null ∷ True ∷ False ∷ NaN ∷ Object ∷ Boolean ∷ Number ∷ String ∷ Function ∷
    Error ∷ TypeError ∷ RangeError ∷ ReferenceError ∷
    HasOwnProperty ∷ Constructor ∷ ToString ∷ ToLocaleString ∷ ValueOf ∷ IsPrototypeOf ∷ PropertyIsEnumerable ∷ Prototype ∷ Call ∷ Name ∷ Message ∷ Length ∷ Push ∷ Pop ∷ Slice ∷ IndexOf ∷ Join ∷ CharAt ∷ CharCodeAt ∷ Substring ∷
    Abs ∷ Floor ∷ Min ∷ Max ∷ Now ∷ Random ∷
    GetElementById ∷ CreateElement ∷ CreateTextNode ∷ Body ∷ DocumentElement ∷ NodeType ∷ NodeName ∷ TagName ∷ NodeValue ∷ ParentNode ∷ FirstChild ∷ LastChild ∷ NextSibling ∷ PreviousSibling ∷ HasChildNodes ∷ AppendChild ∷ InsertBefore ∷ ReplaceChild ∷ RemoveChild ∷ TextContent ∷ GetAttribute ∷ HasAttribute ∷ SetAttribute ∷ RemoveAttribute ∷ Id ∷ ClassName ∷ Value ∷ Checked ∷ SelectedIndex ∷ Disabled ∷ AddEventListener ∷ RemoveEventListener ∷ Code ∷
    EventType ∷ Target ∷ CurrentTarget ∷ EventPhase ∷ Bubbles ∷ Cancelable ∷ StopPropagation ∷ PreventDefault ∷
    Click ∷ Submit ∷ Input ∷ Change ∷ Focus ∷ Blur ∷ Load ∷
    TextName ∷ CommentName ∷ DocumentName ∷ On ∷ []

-- how many units they have together
abbrev pub fixed_size : ℕ
fixed_size = 773

-- how many units the longest of them has
abbrev pub longest_fixed : ℕ
longest_fixed = 20

-- where each fixed text begins in a pool
abbrev pub start_of : FixedText → ℕ
start_of Empty = 0
start_of Undefined = 0
start_of Null = 9
start_of True = 13
start_of False = 17
start_of NaN = 22
start_of Object = 25
start_of Boolean = 31
start_of Number = 38
start_of String = 44
start_of Function = 50
start_of Error = 58
start_of TypeError = 63
start_of RangeError = 72
start_of ReferenceError = 82
start_of HasOwnProperty = 96
start_of Constructor = 110
start_of ToString = 121
start_of ToLocaleString = 129
start_of ValueOf = 143
start_of IsPrototypeOf = 150
start_of PropertyIsEnumerable = 163
start_of Prototype = 183
start_of Call = 192
start_of Name = 196
start_of Message = 200
start_of Length = 207
start_of Push = 213
start_of Pop = 217
start_of Slice = 220
start_of IndexOf = 225
start_of Join = 232
start_of CharAt = 236
start_of CharCodeAt = 242
start_of Substring = 252
start_of Abs = 261
start_of Floor = 264
start_of Min = 269
start_of Max = 272
start_of Now = 275
start_of Random = 278
start_of GetElementById = 284
start_of CreateElement = 298
start_of CreateTextNode = 311
start_of Body = 325
start_of DocumentElement = 329
start_of NodeType = 344
start_of NodeName = 352
start_of TagName = 360
start_of NodeValue = 367
start_of ParentNode = 376
start_of FirstChild = 386
start_of LastChild = 396
start_of NextSibling = 405
start_of PreviousSibling = 416
start_of HasChildNodes = 431
start_of AppendChild = 444
start_of InsertBefore = 455
start_of ReplaceChild = 467
start_of RemoveChild = 479
start_of TextContent = 490
start_of GetAttribute = 501
start_of HasAttribute = 513
start_of SetAttribute = 525
start_of RemoveAttribute = 537
start_of Id = 552
start_of ClassName = 554
start_of Value = 563
start_of Checked = 568
start_of SelectedIndex = 575
start_of Disabled = 588
start_of AddEventListener = 596
start_of RemoveEventListener = 612
start_of Code = 631
start_of EventType = 635
start_of Target = 639
start_of CurrentTarget = 645
start_of EventPhase = 658
start_of Bubbles = 668
start_of Cancelable = 675
start_of StopPropagation = 685
start_of PreventDefault = 700
start_of Click = 714
start_of Submit = 719
start_of Input = 725
start_of Change = 730
start_of Focus = 736
start_of Blur = 741
start_of Load = 745
start_of TextName = 749
start_of CommentName = 754
start_of DocumentName = 762
start_of On = 771
