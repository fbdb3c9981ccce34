-- What the refusals of the binder are called (this project's profile).
use Rattle.std.specs.Prelude.{List, ℕ, codes}
use Rattle.gq_bound.specs.declared.refusal.BindRefusal.{BindRefusal}
use Rattle.gq_bound.specs.declared.refusal.BindRefusal.TheVariants as refusal

abbrev pub name_of : BindRefusal → List ℕ
name_of (refusal.UnknownVariable name) = codes "UnknownVariable"
name_of (refusal.VariableConflict name) = codes "VariableConflict"
name_of (refusal.RelationshipRepeated name) = codes "RelationshipRepeated"
name_of (refusal.ColumnRepeated name) = codes "ColumnRepeated"
name_of refusal.NothingToReturn = codes "NothingToReturn"
name_of (refusal.OrderOutOfScope item) = codes "OrderOutOfScope"
name_of (refusal.AmbiguousOrderName name) = codes "AmbiguousOrderName"
name_of (refusal.UnknownFunction name) = codes "UnknownFunction"
name_of (refusal.ArgumentCount name) = codes "ArgumentCount"
name_of refusal.TooManyPatterns = codes "TooManyPatterns"
name_of refusal.TooManyReads = codes "TooManyReads"
name_of refusal.TooManyColumns = codes "TooManyColumns"
name_of refusal.TooManyAlternatives = codes "TooManyAlternatives"
name_of refusal.TrailLength = codes "TrailLength"
name_of refusal.TrailWithOptional = codes "TrailWithOptional"
name_of refusal.ExistsPlace = codes "ExistsPlace"
name_of (refusal.Memory why) = codes "Memory"
