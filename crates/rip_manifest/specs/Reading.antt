-- What the reader finds of a manifest. No public clause cites this.
use Rattle.std.specs.Prelude.{option_map}
use Rattle.serde_json.specs.View.{view}
use Rattle.rip_manifest.specs.declared.parts.Parts.{Parts as Found}
use Rattle.rip_manifest.specs.Manifest.{Parts}

-- the members that were found, as what they are
abbrev pub parts_view : Found → Parts
parts_view found = record {
  version = view found.version.now;
  beside = option_map (λ both. (view both.0.now, view both.1.now)) found.beside;
  functions = view found.functions.now;
  limits = view found.limits.now;
}
