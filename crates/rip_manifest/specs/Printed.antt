-- Refusals of manifests as they are printed.
use Rattle.std.specs.Prelude.{ℕ, List, codes}
use Rattle.rip_manifest.specs.declared.refusal.ManifestKind.{ManifestKind}
use Rattle.rip_manifest.specs.declared.refusal.ManifestKind.TheVariants.{Syntax, Member, Version, Function, LimitRange}

-- a kind by its name
abbrev pub kind_text : ManifestKind → List ℕ
kind_text Syntax = codes "Syntax"
kind_text Member = codes "Member"
kind_text Version = codes "Version"
kind_text Function = codes "Function"
kind_text LimitRange = codes "LimitRange"
