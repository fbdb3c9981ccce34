-- Lanes of cells, a lane that is lent, and slots that are taken and given back.
use Rattle.std.proofs.Common.{◌≡◌, ◌≢◌, ℕ, ℤ, pos, ◌+◌, ◌<◌, ◌≤◌, List, [], inl, inr, length, map, get_or, set, sym, ap, ◌∙◌, Vec, Global, arith, Bool, true, false, cond, not, count_by}
use Rattle.std.specs.Prelude.{All}
use Rattle.std.specs.List.{refill}
use Rattle.std.specs.Vec.{with_items}
use Rattle.std.proofs.lemmas.Bool.{cases_lt, false≢true}
use Rattle.std.proofs.lemmas.List.{map-set, get_or-map, get_or_past, get_or_default, get_or-set_same, get_or-set_other, length-set, length-map, with_items_is}
use Rattle.std.proofs.lemmas.List.Elements.{All-get_or, All-map}
use Rattle.std.proofs.lemmas.List.Sums.{sum_by-set, sum_by-le}
use Rattle.gq_pool.specs.Pool.{Pool, IsOut, freed, taken, spare_of}

pub lane_is : (lanes : List (Vec ℤ Global)) (i : ℕ) (lane : Vec ℤ Global) → i < length lanes → lane ≡ get_or lanes i lane →
    get_or (map (λ (v : Vec ℤ Global). v.items) lanes) i [] ≡ lane.items
lane_is lanes i lane h e = get_or-map (λ (v : Vec ℤ Global). v.items) lanes i lane [] h ∙ ap (λ (v : Vec ℤ Global). v.items) (sym e)

-- a lane whose cells were lent as a slice and are now those of w
pub lane_lent : (lanes : List (Vec ℤ Global)) (i : ℕ) (lane : Vec ℤ Global) (w : List ℤ) → i < length lanes → lane ≡ get_or lanes i lane →
    map (λ (v : Vec ℤ Global). v.items) (set lanes i (with_items lane w)) ≡ set (map (λ (v : Vec ℤ Global). v.items) lanes) i (let had = get_or (map (λ (v : Vec ℤ Global). v.items) lanes) i [] in refill (length had) had w)
lane_lent lanes i lane w h e =
    map-set (λ (v : Vec ℤ Global). v.items) lanes i (with_items lane w)
    ∙ ap (λ n. set (map (λ (v : Vec ℤ Global). v.items) lanes) i (refill n lane.items w)) lane.ok.0
    ∙ ap (λ had. set (map (λ (v : Vec ℤ Global). v.items) lanes) i (refill (length had) had w)) (sym (lane_is lanes i lane h e))

inside : (out : List Bool) (i : ℕ) (d e : Bool) → d ≢ e → get_or out i d ≡ e → i < length out
inside out i d e ne h = elim (cases_lt i (length out)) [ inl low ↦ low | inr high ↦ absurd (ne (sym (get_or_past out i d high) ∙ h)) ]

abbrev free_one : Bool → ℕ
free_one out = cond (not out) 1 0

pub spare_freed : (p : Pool) (i : ℕ) → IsOut p i → spare_of (freed p i) ≡ spare_of p + 1
spare_freed p i o =
    let low : i < length p.out = inside p.out i false true false≢true o.is_out in
    omega (arith, sum_by-set free_one p.out i false false low, ap free_one o.is_out)

pub spare_taken : (p : Pool) (i : ℕ) → get_or p.out i true ≡ false → spare_of (taken p i) + 1 ≡ spare_of p
spare_taken p i o =
    let low : i < length p.out = inside p.out i true false (λ e. false≢true (sym e)) o in
    omega (arith, sum_by-set free_one p.out i true true low, ap free_one o)

pub some_spare : (p : Pool) (i : ℕ) → get_or p.out i true ≡ false → spare_of p ≢ 0
some_spare p i o e = omega (arith, spare_taken p i o)

pub none_spare : (out : List Bool) (n : ℕ) → length out ≤ n → ((k : ℕ) → k < n → get_or out k true ≡ true) → count_by (λ b. not b) out ≡ 0
none_spare out n h all =
    let each : All (λ b. free_one b ≤ 0) out = λ k d w. omega (arith, ap free_one (get_or_default out k d true w ∙ all k (omega arith))) in
    omega (arith, sum_by-le free_one 0 out each)

abbrev cells : List (Vec ℤ Global) → List (List ℤ)
cells lanes = map (λ (v : Vec ℤ Global). v.items) lanes

-- a lane that was taken out and put back with other cells
pub put_back : (lanes : List (Vec ℤ Global)) (i : ℕ) (empty target : Vec ℤ Global) (w : List ℤ) → i < length lanes → length w ≡ target.len →
    get_or (map (λ (v : Vec ℤ Global). v.items) (set (set lanes i empty) i (with_items target w))) i [] ≡ w
put_back lanes i empty target w h len =
    let there : i < length (set lanes i empty) = omega (arith, length-set lanes i empty) in
    get_or-map (λ (v : Vec ℤ Global). v.items) (set (set lanes i empty) i (with_items target w)) i target [] (omega (arith, length-set (set lanes i empty) i (with_items target w)))
    ∙ ap (λ (v : Vec ℤ Global). v.items) (get_or-set_same (set lanes i empty) i (with_items target w) target there) ∙ with_items_is target w len

-- the other lanes stay
pub put_other : (lanes : List (Vec ℤ Global)) (i s : ℕ) (empty target : Vec ℤ Global) → s ≢ i →
    get_or (map (λ (v : Vec ℤ Global). v.items) (set (set lanes i empty) i target)) s [] ≡ get_or (map (λ (v : Vec ℤ Global). v.items) lanes) s []
put_other lanes i s empty target ne =
    ap (λ (l : List (List ℤ)). get_or l s []) (map-set (λ (v : Vec ℤ Global). v.items) (set lanes i empty) i target)
    ∙ get_or-set_other (cells (set lanes i empty)) i s target.items [] ne
    ∙ ap (λ (l : List (List ℤ)). get_or l s []) (map-set (λ (v : Vec ℤ Global). v.items) lanes i empty)
    ∙ get_or-set_other (cells lanes) i s empty.items [] ne

-- a lane that was read while another was out
pub other_lane : (lanes : List (Vec ℤ Global)) (i j : ℕ) (empty lane : Vec ℤ Global) → j ≢ i → j < length lanes → lane ≡ get_or (set lanes i empty) j lane →
    get_or (map (λ (v : Vec ℤ Global). v.items) lanes) j [] ≡ lane.items
other_lane lanes i j empty lane ne h e = lane_is lanes j lane h (e ∙ get_or-set_other lanes i j empty lane ne)

pub all_zero : (lanes : List (Vec ℤ Global)) (slot : ℕ) → All (λ (v : Vec ℤ Global). All (λ cell. cell ≡ pos 0) v.items) lanes → slot < length lanes →
    All (λ cell. cell ≡ pos 0) (get_or (map (λ (v : Vec ℤ Global). v.items) lanes) slot [])
all_zero lanes slot zero h =
    All-get_or (λ (cells : List ℤ). All (λ cell. cell ≡ pos 0) cells) (map (λ (v : Vec ℤ Global). v.items) lanes) slot [] (omega (arith, length-map lanes (λ (v : Vec ℤ Global). v.items)))
    (All-map (λ (cells : List ℤ). All (λ cell. cell ≡ pos 0) cells) (λ (v : Vec ℤ Global). v.items) lanes zero)

-- a fact of two cells, at a lane of the old cells and one of the new
pub carried : (P : ℤ → ℤ → Type 0) (old new : List (List ℤ)) (from to k : ℕ) (xs ys : List ℤ) → get_or old from [] ≡ xs → get_or new to [] ≡ ys →
    P (get_or xs k (pos 0)) (get_or ys k (pos 0)) → P (get_or (get_or old from []) k (pos 0)) (get_or (get_or new to []) k (pos 0))
carried P old new from to k xs ys e f h = rw (e, f) h
