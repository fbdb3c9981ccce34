-- The keys of what pipelines hand out, chunk by chunk, and where no further key can differ.
use Rattle.std.proofs.Common.{◌≡◌, ◌≢◌, ◌∙◌, ap, ap₂, refl, sym, subst, ℕ, ◌<◌, Bool, true, false, ◌||◌, ◌&&◌, nat_eq, List, [], ◌∷◌, ◌++◌, length, map, take, Result, Ok, Err, arith, length-append, append_assoc, append-nil, true≢false}
use Rattle.std.specs.Prelude.{IsPermutation}
use Rattle.std.proofs.lemmas.Bool.{and_parts, eqb-true}
use Rattle.std.proofs.lemmas.List.{map-append}
use Rattle.std.proofs.lemmas.List.Folds.{list_any-append}
use Rattle.std.proofs.lemmas.List.Sorted.{IsPermutation-map, length_permutation, list_any-IsPermutation}
use Rattle.gq_base.specs.Plain.{Graph}
use Rattle.gq_base.specs.declared.NodeId.{NodeId}
use Rattle.gq_group.specs.Chunks.{assignment_at, chunk_meaning}
use Rattle.gq_group.specs.Groups.{choices}
use Rattle.gq_group.specs.declared.chunk.Chunk.{Chunk}
use Rattle.gq_join.specs.declared.build.JoinRefusal.{JoinRefusal}
use Rattle.gq_join.specs.declared.build.JoinRefusal.TheVariants as refusal
use Rattle.gq_law_answers.specs.Answered.{meanings}
use Rattle.gq_pipe.specs.Progress.{Source}
use Rattle.gq_pipe.specs.Rest.{Rest}
use Rattle.gq_plan.specs.Assignments as plain
use Rattle.gq_plan.specs.Keys.{has_key, key_of, same_nodes}
use Rattle.gq_plan.proofs.DifferentReads.{IsUnique, among_fewer}
use Rattle.gq_plan.proofs.Each.{each_then}
use Rattle.gq_plan.specs.Meaning.{Partial, meaning, whole}
use Rattle.gq_plan.specs.Plans.{plan_of}
use Rattle.gq_plan.specs.declared.plan.Plan as code
use Rattle.gq_plan.specs.Rows.{assigned}
use Rattle.gq_plan.specs.declared.typed.Typed.{Typed}
use Rattle.gq_exists.specs.Different.{AreDifferent, HasMany, HasNoMore}
use Rattle.gq_exists.specs.Made.{IsRefusal}
use Rattle.gq_exists.specs.declared.gathering.Gathering.{Gathering}
use Rattle.gq_exists.specs.declared.keys.Keys.{Keys}
use Rattle.gq_exists.specs.steps.Gathered.{Gathers, IsGathering, Stands, TakesOn, key_at, keys_at}
use Rattle.gq_exists.specs.steps.Stored.{keys_in}
use Rattle.gq_exists.specs.steps.Running.{made_keys, owed_keys}
use Rattle.gq_exists.proofs.Gathered.{AllKeys, Same, Within, alike, came_none, or_left, or_right, same_behind, stops, then}
use Rattle.gq_exists.proofs.Fronts.{same_is}

-- ---- bags

pub bag_same : (n : ℕ) (xs ys : List plain.Assignment) → IsPermutation xs ys → Same (map (key_of n) xs) (map (key_of n) ys)
bag_same n xs ys bag q = list_any-IsPermutation (same_nodes q) (map (key_of n) xs) (map (key_of n) ys) (IsPermutation-map (key_of n) xs ys bag)

-- less is owed after a chunk
pub less_owed : (old chunk new : List Partial) → IsPermutation old (chunk ++ new) → chunk ≢ [] → length new < length old
less_owed old [] new bag some = absurd (some refl)
less_owed old (a ∷ rest) new bag some = omega (arith, length_permutation _ _ bag, length-append rest new)

-- what is there already makes no more of it
absorbed : (xs ys : AllKeys) → Within ys xs → Same xs (xs ++ ys)
absorbed xs ys h q = go (has_key q xs) refl (has_key q ys) refl ∙ sym (list_any-append (same_nodes q) xs ys)
  where
    go : (b : Bool) → has_key q xs ≡ b → (c : Bool) → has_key q ys ≡ c → has_key q xs ≡ (has_key q xs || has_key q ys)
    go true e c f = e ∙ sym (or_left (has_key q xs) (has_key q ys) e)
    go false e true f = absurd (true≢false (sym (h q f) ∙ e))
    go false e false f = e ∙ sym (ap (λ b. b || has_key q ys) e ∙ f)

-- ---- keys without nodes

pub zero_any : (n : ℕ) → n ≡ 0 → (ms : List plain.Assignment) (q : List NodeId) → has_key q (map (key_of n) ms) ≡ true → same_nodes q [] ≡ true
zero_any n z [] q e = absurd (true≢false (sym e))
zero_any n z (m ∷ ms) q e = go (same_nodes q (key_of n m)) refl e (zero_any n z ms q)
  where
    go : (b : Bool) → same_nodes q (key_of n m) ≡ b → (b || has_key q (map (key_of n) ms)) ≡ true → (has_key q (map (key_of n) ms) ≡ true → same_nodes q [] ≡ true) → same_nodes q [] ≡ true
    go true h e more = sym (ap (λ k. same_nodes q (take k m.nodes)) z) ∙ h
    go false h e more = more e

pub zero_has : (n : ℕ) → n ≡ 0 → (ms : List plain.Assignment) → ms ≢ [] → (q : List NodeId) → same_nodes q [] ≡ true → has_key q (map (key_of n) ms) ≡ true
zero_has n z [] some q e = absurd (some refl)
zero_has n z (m ∷ ms) some q e = or_left (same_nodes q (key_of n m)) (has_key q (map (key_of n) ms)) (ap (λ k. same_nodes q (take k m.nodes)) z ∙ e)

-- where the key without nodes came, nothing else can come
pub full_takes : (a : Gathering) → IsGathering a → (nat_eq a.width 0 && has_key [] (keys_in a.keys)) ≡ true → (ms : List plain.Assignment) → TakesOn (map (key_of a.width) ms) a a
full_takes a is full ms =
    let parts = and_parts (nat_eq a.width 0) (has_key [] (keys_in a.keys)) full in
    let zero_wide : a.width ≡ 0 = eqb-true a.width 0 parts.0 in
    record {
      is = is;
      width = refl;
      limit = refl;
      stands = λ came s. record {
        same = λ q.
            s.same q
            ∙ absorbed came (map (key_of a.width) ms)
            (λ k e.
            ap (λ l. has_key l came) (same_is k [] (zero_any a.width zero_wide ms k e)) ∙ sym (s.same []) ∙ parts.1) q;
        apart = s.apart;
        few = s.few;
      };
    }

-- ---- chunks

keys_are : (y : Typed) (n : ℕ) (g : Graph) (c : Chunk) (pss : List (List ℕ)) → map (key_of n) (map (assigned y) (map (assignment_at g y c) pss)) ≡ keys_at y n c pss
keys_are y n g c [] = refl
keys_are y n g c (ps ∷ pss) = ap (λ l. key_at y n c ps ∷ l) (keys_are y n g c pss)

-- the keys of a chunk are those of what it takes from what is owed
pub chunk_keys : (y : Typed) (n : ℕ) (s : Source) (c : Chunk) (here : List Partial) → s.typed ≡ y → map (assigned s.typed) (chunk_meaning s.graph s.typed c) ≡ map (whole s.typed) here
    → keys_at y n c (choices c.groups.now) ≡ map (key_of n) (map (whole y) here)
chunk_keys y n s c here typed e =
    sym (keys_are y n s.graph c (choices c.groups.now)) ∙ ap (map (key_of n)) (subst (λ z. map (assigned z) (chunk_meaning s.graph z c) ≡ map (whole z) here) typed e)

-- the keys of what is not owed any more came
pub record Filled (y : Typed) (begun now : Rest) (old new : Gathering) : Type 0 where
  pub done : AllKeys
  pub took : TakesOn done old new
  pub same : Same (owed_keys y old.width begun) (done ++ owed_keys y old.width now)

pub filled_none : (y : Typed) (begun : Rest) (old : Gathering) → IsGathering old → Filled y begun begun old old
filled_none y begun old is = record { done = []; took = came_none old is; same = λ q. refl }

module _ (y : Typed) (begun : Rest) (old : Gathering) where
  abbrev n : ℕ
  n = old.width

  pub filled_all : (now : Rest) (new : Gathering) → Filled y begun now old new → now.owed ≡ [] → TakesOn (owed_keys y n begun) old new
  filled_all now new f none =
      alike f.done (owed_keys y n begun) old new (Ok tt)
      (λ q. ap (has_key q) (sym (append-nil f.done)) ∙ ap (λ l. has_key q (f.done ++ map (key_of n) (map (whole y) l))) (sym none) ∙ sym (f.same q)) f.took

  module _ (now after : Rest) (mid : Gathering) (f : Filled y begun now old mid) (bag : IsPermutation now.owed (after.chunk ++ after.owed)) (c : Chunk)
      (is : (w : ℕ) → keys_at y w c (choices c.groups.now) ≡ map (key_of w) (map (whole y) after.chunk)) where
    abbrev here : AllKeys
    here = map (key_of n) (map (whole y) after.chunk)

    abbrev rest : AllKeys
    rest = owed_keys y n after

    parted : Same (owed_keys y n now) (here ++ rest)
    parted q =
        bag_same n (map (whole y) now.owed) (map (whole y) (after.chunk ++ after.owed)) (IsPermutation-map (whole y) now.owed (after.chunk ++ after.owed) bag) q
        ∙ ap (λ l. has_key q (map (key_of n) l)) (map-append (whole y) after.chunk after.owed)
        ∙ ap (has_key q) (map-append (key_of n) (map (whole y) after.chunk) (map (whole y) after.owed))

    same : Same (owed_keys y n begun) ((f.done ++ here) ++ rest)
    same q = f.same q ∙ same_behind f.done (owed_keys y n now) (here ++ rest) parted q ∙ ap (has_key q) (sym (append_assoc f.done here rest))

    more : (new : Gathering) (r : Result (Unit {0}) JoinRefusal) → Gathers (keys_at y mid.width c (choices c.groups.now)) mid new r → Gathers (f.done ++ here) old new r
    more new r h =
        then f.done here old mid new r f.took (subst (λ l. Gathers l mid new r) (ap (λ w. keys_at y w c (choices c.groups.now)) f.took.width ∙ is n) h)

    pub filled_more : (new : Gathering) (u : Unit {0}) → Gathers (keys_at y mid.width c (choices c.groups.now)) mid new (Ok u) → Filled y begun after old new
    filled_more new u h = record { done = f.done ++ here; took = more new (Ok u) h; same = same }

    pub filled_stops : (new : Gathering) (e : JoinRefusal) → Gathers (keys_at y mid.width c (choices c.groups.now)) mid new (Err e) → Gathers (owed_keys y n begun) old new (Err e)
    filled_stops new e h =
        alike ((f.done ++ here) ++ rest) (owed_keys y n begun) old new (Err e) (λ q. sym (same q)) (stops (f.done ++ here) rest old new new e (more new (Err e) h))

    -- with the first chunk the one key without nodes is there
    pub filled_first : (new : Gathering) (u : Unit {0}) → Gathers (keys_at y mid.width c (choices c.groups.now)) mid new (Ok u) → new.width ≡ 0 → after.chunk ≢ [] → TakesOn (owed_keys y n begun) old new
    filled_first new u h zero_new some =
        let took = more new (Ok u) h in
        let z : n ≡ 0 = sym took.width ∙ zero_new in
        let within : Within rest (f.done ++ here) =
        λ q e.
        list_any-append (same_nodes q) f.done here
        ∙ or_right (has_key q f.done) (has_key q here)
        (zero_has n z (map (whole y) after.chunk) (still after.chunk some) q (zero_any n z (map (whole y) after.owed) q e)) in
        alike (f.done ++ here) (owed_keys y n begun) old new (Ok u) (λ q. absorbed (f.done ++ here) rest within q ∙ sym (same q)) took
      where
        still : (ps : List Partial) → ps ≢ [] → map (whole y) ps ≢ []
        still [] h e = h refl
        still (p ∷ ps) h e = absurd (omega (arith, ap length e))

-- a chunk that means something has some choice
pub some_choices : (y : Typed) (n : ℕ) (c : Chunk) (chunk : List Partial) → keys_at y n c (choices c.groups.now) ≡ map (key_of n) (map (whole y) chunk) → chunk ≢ [] → choices c.groups.now ≢ []
some_choices y n c [] is some none = some refl
some_choices y n c (a ∷ chunk) is some none = absurd (omega (arith, ap length (sym (ap (keys_at y n c) none) ∙ is)))

-- ---- alternatives

pub each_keys : (g : Graph) (ys rest : List Typed) (ps more : List code.Plan) (y : Typed) (p : code.Plan) → ys ≡ y ∷ rest → ps ≡ p ∷ more → (w : ℕ)
    → map (key_of w) (meanings g ys (map plan_of ps)) ≡ made_keys g y w p ++ map (key_of w) (meanings g rest (map plan_of more))
each_keys g ys rest ps more y p e f w =
    ap₂ (λ zs qs. map (key_of w) (meanings g zs (map plan_of qs))) e f ∙ map-append (key_of w) (meaning g y (plan_of p)) (meanings g rest (map plan_of more))

-- ---- all of them

pub begun : (a : Gathering) → keys_in a.keys ≡ [] → Stands a.limit [] a.keys
begun a e = record { same = λ q. ap (has_key q) e; apart = subst AreDifferent (sym e) tt; few = omega (arith, ap length e) }

pub unique : (ks : AllKeys) → AreDifferent ks → IsUnique same_nodes same_is ks
unique [] a = tt
unique (k ∷ ks) a = (a.0, unique ks a.1)

pub no_more : (limit : ℕ) (all : AllKeys) (k : Keys) → Stands limit all k → HasNoMore limit all
no_more limit all k s = λ m.
    let among = each_then (λ l. has_key l all ≡ true) (λ l. has_key l (keys_in k) ≡ true) (λ l e. s.same l ∙ e) m.some m.among in
    let fewer = among_fewer same_nodes same_is m.some (keys_in k) (unique m.some m.apart) among in
    omega (arith, m.many, fewer, s.few)

pub refused : (limit : ℕ) (all : AllKeys) (a b : Gathering) (e : JoinRefusal) → keys_in a.keys ≡ [] → a.limit ≡ limit → Gathers all a b (Err e) → IsRefusal limit all e
refused limit all a b (refusal.TooManyRows l) none is h = (h.0 ∙ is, subst (λ n. HasMany n all) is (h.1 [] (begun a none)))
refused limit all a b (refusal.Memory why) none is h = tt
