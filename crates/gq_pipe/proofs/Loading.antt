-- What has come into a build, and what a pipeline has spent, when the pipeline's chunks are pushed into the build.
use Rattle.std.proofs.Common.{◌≡◌, ◌≢◌, ◌∙◌, ◌+◌, ◌-◌, ◌^◌, ◌≤◌, ◌<◌, ℕ, ap, refl, sym, subst, true, List, [], ◌∷◌, ◌++◌, append_assoc, append-nil, length, map, min, arith, length-append}
use Rattle.std.specs.Prelude.{IsPermutation}
use Rattle.std.proofs.lemmas.List.{length-map, map-append}
use Rattle.std.proofs.lemmas.List.Sorted.{IsPermutation-append_right, IsPermutation-refl, IsPermutation-trans, length_permutation}
use Rattle.gq_base.specs.Plain.{Graph}
use Rattle.gq_group.specs.Chunks.{IsChunkOf, chunk_meaning}
use Rattle.gq_group.specs.declared.chunk.Chunk.{Chunk}
use Rattle.gq_join.specs.Kept.{Growing, IsWithin, is_past, kept, with_rows}
use Rattle.gq_join.specs.declared.build.JoinRefusal.{JoinRefusal}
use Rattle.gq_join.specs.declared.build.JoinRefusal.TheVariants.{TooManyRows, Memory}
use Rattle.gq_plan.specs.Meaning.{Partial, nothing}
use Rattle.gq_plan.specs.Plans.{Plan}
use Rattle.gq_plan.specs.declared.assignment.Assignment.{Assignment}
use Rattle.gq_plan.specs.declared.typed.Typed.{Typed}
use Rattle.gq_steps.specs.Given.{given}
use Rattle.gq_pipe.specs.Progress.{Source, plan_in}
use Rattle.gq_pipe.specs.Rest.{Rest}
use Rattle.gq_pipe.specs.Spending.{up_to_most}
use Rattle.gq_pipe.specs.steps.Filled.{HasRun, IsFilled}

-- what binds part of what was owed came into a build, and the rest is owed
pub record Came (y : Typed) (side : Plan) (old new : Growing) (owed left : List Partial) : Type 0 where
  pub rows : List Assignment
  pub pushed : new ≡ with_rows rows old
  pub bag : IsPermutation owed (map (λ row. given y row side nothing) rows ++ left)
  pub within : IsWithin old.limit (length old.rows) (length rows)

with_none : (b : Growing) → b.usable ≡ true → b ≡ with_rows [] b
with_none b usable = λ i. record {
  keys = b.keys;
  nodes = b.nodes;
  rels = b.rels;
  limit = b.limit;
  rows = sym (append-nil b.rows) i;
  usable = usable i;
}

pub came_none : (y : Typed) (side : Plan) (b : Growing) (owed : List Partial) → b.usable ≡ true → Came y side b b owed owed
came_none y side b owed usable = record {
  rows = [];
  pushed = with_none b usable;
  bag = IsPermutation-refl owed;
  within = λ some. absurd (omega (arith, some));
}

-- rows after rows
with_more : (b : Growing) (rows more : List Assignment) → with_rows more (with_rows rows b) ≡ with_rows (rows ++ more) b
with_more b rows more = ap (λ rs. record {
  keys = b.keys;
  nodes = b.nodes;
  rels = b.rels;
  limit = b.limit;
  rows = rs;
  usable = true;
}) (append_assoc b.rows (map (kept b.nodes b.rels) rows) (map (kept b.nodes b.rels) more) ∙ ap (λ l. b.rows ++ l) (sym (map-append (kept b.nodes b.rels) rows more)))

module _ (y : Typed) (side : Plan) (old mid : Growing) (owed left : List Partial) (came : Came y side old mid owed left) where
  abbrev reads : Assignment → Partial
  reads row = given y row side nothing

  many_rows : length mid.rows ≡ length old.rows + length came.rows
  many_rows =
      ap (λ (b : Growing). length b.rows) came.pushed ∙ length-append old.rows (map (kept old.nodes old.rels) came.rows)
      ∙ ap (λ n. length old.rows + n) (length-map came.rows (kept old.nodes old.rels))

  same_limit : mid.limit ≡ old.limit
  same_limit = ap (λ (b : Growing). b.limit) came.pushed

  module _ (chunk after : List Partial) (more : List Assignment) (next : IsPermutation left (chunk ++ after)) (binds : map reads more ≡ chunk) where
    -- a chunk came too
    pub came_more : (new : Growing) → new ≡ with_rows more mid → IsWithin mid.limit (length mid.rows) (length more) → Came y side old new owed after
    came_more new pushed within = record {
      rows = came.rows ++ more;
      pushed = pushed ∙ ap (with_rows more) came.pushed ∙ with_more old came.rows more;
      bag =
          subst (λ l. IsPermutation owed (l ++ after)) (sym (map-append reads came.rows more))
          (subst (IsPermutation owed) (sym (append_assoc (map reads came.rows) (map reads more) after))
          (IsPermutation-trans _ _ _ came.bag (IsPermutation-append_right (map reads came.rows) left (map reads more ++ after) (subst (λ l. IsPermutation left (l ++ after)) (sym binds) next))));
      within = fits more came.rows within came.within many_rows;
    }
      where
        fits : (more before : List Assignment) → IsWithin mid.limit (length mid.rows) (length more) → IsWithin old.limit (length old.rows) (length before) → length mid.rows ≡ length old.rows + length before
            → IsWithin old.limit (length old.rows) (length (before ++ more))
        fits [] before here earlier many = λ some. (let h = earlier (omega (arith, some, length-append before [])) in omega (arith, h, length-append before []))
        fits (r ∷ rs) before here earlier many = λ some. (let h = here (omega arith) in omega (arith, h, many, same_limit, length-append before (r ∷ rs)))

    -- it is refused only where all that was owed is too much
    pub refused : (e : JoinRefusal) → is_past mid.limit (length mid.rows + length more) e → is_past old.limit (length old.rows + length owed) e
    refused (TooManyRows l) h =
        let long : length (map reads came.rows ++ left) ≡ length owed = length_permutation _ _ came.bag in
        let parted : length (chunk ++ after) ≡ length left = length_permutation _ _ next in
        let some : length more ≡ length chunk = sym (length-map more reads) ∙ ap length binds in (
          h.0 ∙ same_limit,
          (let past : mid.limit < length mid.rows + length more = h.1 in
              omega (arith, past, same_limit, many_rows, some, long, parted, length-append chunk after, length-append (map reads came.rows) left, length-map came.rows reads)),
        )
    refused (Memory why) h = tt

  -- nothing is owed any more
  pub all_came : left ≡ [] → IsFilled y side owed old mid
  all_came none = record {
    rows = came.rows;
    pushed = came.pushed;
    made = subst (IsPermutation owed) (ap (λ l. map reads came.rows ++ l) none ∙ append-nil (map reads came.rows)) came.bag;
    within = came.within;
  }

-- ---- counts

-- so many chunks were handed out
pub record Counted (begun now : Rest) : Type 0 where
  pub count : ℕ
  pub chunks : now.chunks ≡ up_to_most count
  pub keys : length begun.keys ≡ count + length now.keys
  pub most : count + length now.owed ≤ length begun.owed
  pub none : count ≡ 0 → begun.owed ≡ now.owed

pub counted_none : (begun : Rest) → begun.chunks ≡ 0 → Counted begun begun
counted_none begun fresh = record {
  count = 0;
  chunks = fresh;
  keys = omega arith;
  most = omega arith;
  none = λ e. refl;
}

one_counted : (n : ℕ) → min (up_to_most n + 1) (2 ^ 64 - 1) ≡ up_to_most (n + 1)
one_counted n = omega arith

longer : (more : List Partial) → more ≢ [] → 0 < length more
longer [] h = absurd (h refl)
longer (a ∷ rest) h = omega arith

pub counted_more : (begun now after : Rest) → Counted begun now → IsPermutation now.owed (after.chunk ++ after.owed) → after.chunk ≢ [] → now.keys ≡ after.key ∷ after.keys
    → after.chunks ≡ min (now.chunks + 1) (2 ^ 64 - 1) → Counted begun after
counted_more begun now after came next some key chunk = record {
  count = came.count + 1;
  chunks = chunk ∙ ap (λ n. min (n + 1) (2 ^ 64 - 1)) came.chunks ∙ one_counted came.count;
  keys = omega (arith, came.keys, ap length key);
  most = omega (arith, came.most, length_permutation _ _ next, length-append after.chunk after.owed, longer after.chunk some);
  none = λ e. absurd (omega (arith, e));
}

-- nothing is owed any more
pub run_out : (begun now after : Rest) → Counted begun now → now.owed ≡ [] → now.keys ≡ [] → after.chunks ≡ now.chunks → HasRun begun after
run_out begun now after came none no_keys same = record {
  keys = same ∙ came.chunks ∙ (let all : up_to_most came.count ≡ up_to_most (length begun.keys) = omega (arith, came.keys, ap length no_keys) in all);
  most = omega (arith, same, came.chunks, came.most);
  none = λ e. came.none (omega (arith, e, same, came.chunks)) ∙ none;
}

-- less is owed after a chunk
pub less_owed : (old chunk new : List Partial) → IsPermutation old (chunk ++ new) → chunk ≢ [] → length new < length old
less_owed old [] new bag some = absurd (some refl)
less_owed old (a ∷ rest) new bag some = omega (arith, length_permutation _ _ bag, length-append rest new)

-- ---- a chunk, told of the graph and the alternative

pub chunk_in : (g : Graph) (y : Typed) (s : Source) (c : Chunk) → s.graph ≡ g → s.typed ≡ y → IsChunkOf s.graph s.typed c → IsChunkOf g y c
chunk_in g y s c graph typed h = subst (λ z. IsChunkOf g z c) typed (subst (λ k. IsChunkOf k s.typed c) graph h)

pub binds_in : (g : Graph) (y : Typed) (p : Plan) (s : Source) (c : Chunk) (here : List Partial) → s.graph ≡ g → s.typed ≡ y → plan_in s ≡ p
    → map (λ row. given s.typed row (plan_in s) nothing) (chunk_meaning s.graph s.typed c) ≡ here
    → map (λ row. given y row p nothing) (chunk_meaning g y c) ≡ here
binds_in g y p s c here graph typed plan h =
    subst (λ q. map (λ row. given y row q nothing) (chunk_meaning g y c) ≡ here) plan
    (subst (λ z. map (λ row. given z row (plan_in s) nothing) (chunk_meaning g z c) ≡ here) typed
    (subst (λ k. map (λ row. given s.typed row (plan_in s) nothing) (chunk_meaning k s.typed c) ≡ here) graph h))
