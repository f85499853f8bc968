-- Objects, arrays and their sizes, as the readers of a value show them.
use Rattle.std.proofs.Common.{◌≡◌, ℕ, List, length, Option, None, Some, Ok, refl, ap, sym, ◌∙◌}
use Rattle.serde_json.specs.Data.{Data, null, boolean, number, string, array, object, Items, Members}
use Rattle.serde_json.specs.Events.{items_len, members_len}
use Rattle.serde_json.specs.Find.{as_object, as_array, get, get_member}
use Rattle.serde_json.specs.View.{items_view, members_view}
use Rattle.serde_json.specs.declared.value.Value.{Value}
use Rattle.rip_data.specs.Reading.{answer_long, judged, refusal_long, unless_refused, value_of}
use Rattle.rip_data.specs.declared.error.DataError.{DataError}
use Rattle.serde_json.proofs.Views.{Entry, items_len-items_view, members_len-members_view}

pub as_object-some : (d : Data) (ms : Members) → Some ms ≡ as_object d → d ≡ object ms
as_object-some null ms e = cc
as_object-some (boolean b) ms e = cc
as_object-some (number n) ms e = cc
as_object-some (string s) ms e = cc
as_object-some (array ds) ms e = cc
as_object-some (object ns) ms e = cc

pub as_array-some : (d : Data) (ds : Items) → Some ds ≡ as_array d → d ≡ array ds
as_array-some null ds e = cc
as_array-some (boolean b) ds e = cc
as_array-some (number n) ds e = cc
as_array-some (string s) ds e = cc
as_array-some (array es) ds e = cc
as_array-some (object ms) ds e = cc

pub object_same : (d : Data) (ms ns : Members) → Some ms ≡ as_object d → d ≡ object ns → ms ≡ ns
object_same d ms ns e is = cc (as_object-some d ms e)

pub array_same : (d : Data) (ds es : Items) → Some ds ≡ as_array d → d ≡ array es → ds ≡ es
array_same d ds es e is = cc (as_array-some d ds e)

-- an object has as many members as its map has entries
pub members_len-object : (d : Data) (es : List Entry) (ms : Members) → Some (members_view es) ≡ as_object d → d ≡ object ms → length es ≡ members_len ms
members_len-object d es ms e is = sym (members_len-members_view es) ∙ ap members_len (object_same d (members_view es) ms e is)

-- an array has as many elements as its list
pub items_len-array : (d : Data) (vs : List Value) (ds : Items) → Some (items_view vs) ≡ as_array d → d ≡ array ds → length vs ≡ items_len ds
items_len-array d vs ds e is = sym (items_len-items_view vs) ∙ ap items_len (array_same d (items_view vs) ds e is)

-- what is found in an object is its member
pub get_member-object : (name : List ℕ) (d : Data) (ms : Members) (x : Data) → d ≡ object ms → Some x ≡ get name d → get_member name ms ≡ Some x
get_member-object name d ms x is e = sym (e ∙ ap (get name) is)

kept : (o : Option DataError) (d x : Data) → unless_refused o d ≡ Ok x → unless_refused o d ≡ Ok d
kept None d x e = refl
kept (Some refusal) d x e = cc

-- bytes that are read as data are read as the value that they are
pub long-view : (bytes : List ℕ) (v x : Data) → value_of bytes ≡ Some v → answer_long bytes ≡ Ok x → answer_long bytes ≡ Ok v
long-view bytes v x is read =
    let here : answer_long bytes ≡ unless_refused (refusal_long v) v = ap (judged refusal_long) is in
    here ∙ kept (refusal_long v) v x (sym here ∙ read)
