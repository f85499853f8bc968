-- The lines of a run that puts one.
use Rattle.std.specs.Prelude.{◌++◌, ℕ, List, codes, decimal, Option, Some, None}
use Rattle.rip_base.specs.Printed.{kind_text as page_word}
use Rattle.rip_lexer.specs.Printed.{kind_text as lex_word}
use Rattle.rip_parser.specs.Printed.{kind_text as parse_word}
use Rattle.rip_early.specs.Printed.{kind_text as early_word}
use Rattle.rip_manifest.specs.Printed.{kind_text as manifest_word}
use Rattle.rip_app.specs.declared.refusal.AppRefusal.{AppRefusal}
use Rattle.rip_app.specs.declared.refusal.AppRefusal.TheVariants.{Page, Lex, Parse, Early, Manifest, LimitsTooLarge, Memory}

-- what `check` says of an application: how many nodes its page has, and how many scripts
abbrev pub count_line : ℕ → ℕ → List ℕ
count_line nodes scripts = codes "ok nodes " ++ decimal nodes ++ codes " scripts " ++ decimal scripts ++ codes "\n"

-- the line for a file that is too long, by its word
abbrev pub too_long_line : List ℕ → List ℕ
too_long_line file = codes "refused " ++ file ++ codes " TooLong\n"

-- the line for a page: what is wrong, and the place in bytes
abbrev pub page_line : List ℕ → ℕ → List ℕ
page_line kind place = codes "refused page " ++ kind ++ codes " " ++ decimal place ++ codes "\n"

-- the line for a manifest: what is wrong
abbrev pub manifest_line : List ℕ → List ℕ
manifest_line kind = codes "refused app " ++ kind ++ codes "\n"

-- the line for a script: its number from 1, what is wrong, and the place in units
abbrev pub script_line : ℕ → List ℕ → ℕ → List ℕ
script_line number kind place =
    codes "refused script " ++ decimal number ++ codes " " ++ kind ++ codes " " ++ decimal place ++ codes "\n"

-- the line for a trace: its first line that is none, counted from 1
abbrev pub trace_line : ℕ → List ℕ
trace_line line = codes "refused trace " ++ decimal line ++ codes "\n"

-- the line for gestures: the first line that is none, or whose gesture is not legal at its place, counted from 1
abbrev pub gestures_line : ℕ → List ℕ
gestures_line line = codes "refused gestures " ++ decimal line ++ codes "\n"

-- the line for a page and a manifest that are no application; none for want of memory
abbrev pub app_line : AppRefusal → Option (List ℕ)
app_line (Page place kind) = Some (page_line (page_word kind) place)
app_line (Lex number place kind) = Some (script_line number (lex_word kind) place)
app_line (Parse number place kind) = Some (script_line number (parse_word kind) place)
app_line (Early number place kind) = Some (script_line number (early_word kind) place)
app_line (Manifest kind) = Some (manifest_line (manifest_word kind))
app_line LimitsTooLarge = Some (manifest_line (codes "LimitsTooLarge"))
app_line Memory = None
