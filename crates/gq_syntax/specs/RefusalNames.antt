-- What the refusals of a text that is no statement are called (this project's profile).
use Rattle.std.specs.Prelude.{List, ℕ, codes}
use Rattle.gq_syntax.specs.declared.refusal.SyntaxRefusal.{SyntaxRefusal}
use Rattle.gq_syntax.specs.declared.refusal.SyntaxRefusal.TheVariants as refusal

abbrev pub name_of : SyntaxRefusal → List ℕ
name_of (refusal.Lex at) = codes "Lex"
name_of (refusal.Syntax at) = codes "Syntax"
name_of (refusal.Depth at) = codes "Depth"
name_of (refusal.UnknownParameter name) = codes "UnknownParameter"
name_of refusal.Memory = codes "Memory"
