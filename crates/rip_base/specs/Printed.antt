-- Refusals of pages as they are printed.
use Rattle.std.specs.Prelude.{ℕ, List, codes}
use Rattle.rip_base.specs.declared.page.PageKind.{PageKind}
use Rattle.rip_base.specs.declared.page.PageKind.TheVariants.{NotUtf8, MissingPart, BadTag, BadAttribute, DoubleAttribute, BadReference, OpenComment, Misnested, TextOutside, ScriptNotLast, ExternalScript, NotInSubset, TooNested}

-- a kind by its name
abbrev pub kind_text : PageKind → List ℕ
kind_text NotUtf8 = codes "NotUtf8"
kind_text MissingPart = codes "MissingPart"
kind_text BadTag = codes "BadTag"
kind_text BadAttribute = codes "BadAttribute"
kind_text DoubleAttribute = codes "DoubleAttribute"
kind_text BadReference = codes "BadReference"
kind_text OpenComment = codes "OpenComment"
kind_text Misnested = codes "Misnested"
kind_text TextOutside = codes "TextOutside"
kind_text ScriptNotLast = codes "ScriptNotLast"
kind_text ExternalScript = codes "ExternalScript"
kind_text NotInSubset = codes "NotInSubset"
kind_text TooNested = codes "TooNested"
