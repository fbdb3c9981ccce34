-- How the answers of the calls speak of the definition of a manifest.
use Rattle.std.specs.Prelude.{◌≡◌, Ok, Err}
use Rattle.std.specs.declared.result.Result.{Result}
use Rattle.gq_manifest.specs.declared.manifest.Manifest.{Manifest}
use Rattle.gq_manifest.specs.declared.refusal.ManifestRefusal.{ManifestRefusal}
use Rattle.gq_manifest.specs.declared.refusal.ManifestRefusal.TheVariants as refusal

-- the refusal that is meant, or want of memory, which is free
abbrev pub Refuses : Result Manifest ManifestRefusal → ManifestRefusal → Type 0
Refuses meant refusal.Memory = Unit {0}
Refuses meant e = meant ≡ Err e

-- the answer is what is meant, or want of memory
abbrev pub Reads : Result Manifest ManifestRefusal → Result Manifest ManifestRefusal → Type 0
Reads meant (Ok manifest) = meant ≡ Ok manifest
Reads meant (Err e) = Refuses meant e
