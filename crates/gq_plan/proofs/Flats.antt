-- A plan is without joins exactly where it has no side plans.
use Rattle.std.proofs.Common.{◌≡◌, ap, refl, sym, ◌∙◌, suc, List, ◌==◌, length, arith}
use Rattle.std.specs.List.{AllZip}
use Rattle.std.proofs.lemmas.Bool.{ne_eqb}
use Rattle.std.proofs.lemmas.Slice.Zip.{AllZip-long}
use Rattle.gq_base.specs.Lists.{is_empty}
use Rattle.gq_plan.specs.Flat.{is_flat}
use Rattle.gq_plan.specs.Parts.{sides}
use Rattle.gq_plan.specs.Plans.{Plan, Done, Then, Scan, Extend, Close, Join, Keep, Differ, NoLoop, Single, Meet}

pub flat_is : (p : Plan) → is_flat p ≡ is_empty (sides p)
unfolding sides
flat_is Done = refl
flat_is (Then (Scan v) p) = flat_is p
flat_is (Then (Extend column x from to way) p) = flat_is p
flat_is (Then (Close column x from to way) p) = flat_is p
flat_is (Then (Join side keys) p) = sym (ne_eqb (suc (length (sides p))) 0 (λ e. absurd (omega arith)))
flat_is (Then (Keep i) p) = flat_is p
flat_is (Then (Differ q) p) = flat_is p
flat_is (Then (NoLoop x) p) = flat_is p
flat_is (Then (Single x from to way) p) = flat_is p
flat_is (Then (Meet x from to way) p) = flat_is p

-- so where it has one side plan for each item of a list, it is without joins exactly where the list is empty
pub flat_where : {X : Type 0} (R : X → Plan → Type 0) (xs : List X) (p : Plan) → AllZip R xs (sides p) → is_flat p ≡ is_empty xs
flat_where R xs p each = flat_is p ∙ ap (λ n. n == 0) (AllZip-long R xs (sides p) each)
