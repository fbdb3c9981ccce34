-- The sample graph is valid.
use Rattle.std.proofs.Common.{◌≡◌, ◌≢◌, ℕ, ◌+◌, ◌-◌, ◌*◌, ◌%◌, ◌<◌, ◌≤◌, ◌^◌, Bool, true, false, List, [], ◌∷◌, length, map, Some, None, pos, decimal, refl, ap, ◌∙◌, arith}
use Rattle.std.specs.Prelude.{◌&&◌, ◌==◌, nat_lt, nat_le, filter, if◌then◌else◌}
use Rattle.std.specs.List.{list_all, range_with_len}
use Rattle.std.specs.declared.option.Option.{Option}
use Rattle.std.proofs.lemmas.Bool.Decides.{nat_tests}
use Rattle.std.proofs.lemmas.Fmt.{decimal_injective}
use Rattle.std.proofs.lemmas.List.{length-map}
use Rattle.std.proofs.lemmas.List.Concat.{length-flat_map}
use Rattle.std.proofs.lemmas.List.Folds.{list_all-map}
use Rattle.std.proofs.lemmas.List.FromFn.{length-range_with_len, length-map-range_with_len}
use Rattle.std.proofs.lemmas.List.Sums.{count_by-le-length, length-filter, sum_by-le}
use Rattle.std.proofs.lemmas.Nat.{mod_below}
use Rattle.gq_base.specs.Catalogs.{Tables}
use Rattle.gq_base.specs.Lists.{all_distinct, all_zip, each}
use Rattle.gq_base.specs.Plain.{Graph}
use Rattle.gq_base.specs.Valid.{are_fields, are_nodes, are_rels, are_unique, fits_fields, has_ends, has_keys, is_of_kind, is_rel, is_valid, keeps_mult, key_of, row_count, same_key}
use Rattle.gq_base.specs.ValueLaws.{same_val}
use Rattle.gq_base.specs.Values.{Val, int, str}
use Rattle.gq_base.specs.declared.catalog.Kind.TheVariants as kind
use Rattle.gq_base.specs.declared.catalog.NodeTable.{NodeTable}
use Rattle.gq_base.specs.declared.catalog.RelTable.{RelTable}
use Rattle.gq_base.specs.declared.cell.Cell.{Cell}
use Rattle.gq_base.specs.declared.cell.PlainRel.{PlainRel}
use Rattle.gq_sample.specs.Sample.{cities_of, city, city_count, city_fields, city_numbers, city_table, has_home, homes_of, known_by, knows, knows_fields, knows_of, knows_table, lives_in, lives_in_table, number, person, person_fields, person_table, persons_of, sample_graph, sample_tables, up_to}
use Rattle.gq_sample.proofs.Numbers.{all_filter, all_flat_map, all_range, both, distinct_filter, distinct_range}

abbrev Rows : Type 0
Rows = List (List (Option Cell))

fewer : (m n : ℕ) → m ≤ n → nat_le m n ≡ true
fewer m n h = grind (arith, nat_tests)

less : (m n : ℕ) → m < n → nat_lt m n ≡ true
less m n h = grind (arith, nat_tests)

-- ---- tables by their parts

nodes_fit : (table : NodeTable) (rows : Rows) → are_fields table.fields ≡ true → length rows ≤ 2 ^ 24 → list_all (fits_fields table.fields) rows ≡ true → has_keys rows ≡ true → are_nodes table rows ≡ true
nodes_fit table rows named few fit keys = rw (named, fewer (length rows) (2 ^ 24) few, fit, keys) refl

rels_fit : (nodes : List Rows) (table : RelTable) (rels : List PlainRel) → has_ends (length nodes) table ≡ true → are_fields table.fields ≡ true → length rels ≤ 2 ^ 25
    → list_all (is_rel table.fields (row_count nodes table.from) (row_count nodes table.to)) rels ≡ true → keeps_mult table.mult rels ≡ true → are_rels nodes table rels ≡ true
rels_fit nodes table rels ends named few fit kept = rw (ends, named, fewer (length rels) (2 ^ 25) few, fit, kept) refl

-- an integer that may be missing
may_miss : (b : Bool) (n : ℕ) → is_of_kind kind.Int (if b then None else number n) ≡ true
may_miss true n = refl
may_miss false n = refl

-- ---- keys

-- the keys of rows that are made of numbers
keys_of : (row : ℕ → List (Option Cell)) (key : ℕ → Val) → ((i : ℕ) → key_of (row i) ≡ Some (key i)) → (xs : List ℕ) → each key_of (map row xs) ≡ Some (map key xs)
keys_of row key h [] = refl
keys_of row key h (x ∷ xs) = rw (h x, keys_of row key h xs) refl

not_true : (b : Bool) → (b ≡ true → ⊥) → b ≡ false
not_true true h = absurd (h refl)
not_true false h = refl

apart : (a b : Val) → a ≢ b → same_key a b ≡ false
apart a b h = not_true (same_key a b) (λ e. h (same_val a b e))

keyed : (row : ℕ → List (Option Cell)) (key : ℕ → Val) (a n : ℕ) → ((i : ℕ) → key_of (row i) ≡ Some (key i)) → ((i j : ℕ) → a ≤ i → i < j → j < a + n → key i ≢ key j) → has_keys (map row (range_with_len a n)) ≡ true
keyed row key a n has other = ap are_unique (keys_of row key has (range_with_len a n)) ∙ distinct_range same_key key a n (λ i j low order high. apart (key i) (key j) (other i j low order high))

other_numbers : (i j : ℕ) → i < j → int (pos i) ≢ int (pos j)
other_numbers i j h e = let same : i ≡ j = cc e in omega arith

abbrev code_of : ℕ → Val
code_of j = str (99 ∷ decimal j)

other_codes : (i j : ℕ) → i < j → j < 2 ^ 64 → code_of i ≢ code_of j
other_codes i j h few e =
    let spelled : decimal i ≡ decimal j = cc e in
    let same = decimal_injective i j (omega arith) few spelled in
    omega arith

-- ---- persons and cities

person_fits : (i : ℕ) → fits_fields person_fields (person i) ≡ true
person_fits i = rw (may_miss (i % 3 == 0) (i * 7 % 90)) refl

city_fits : (j : ℕ) → fits_fields city_fields (city j) ≡ true
city_fits j = rw (may_miss (j % 5 == 0) (j * 1000)) refl

persons_valid : (n : ℕ) → n ≤ 1000000 → are_nodes person_table (persons_of n) ≡ true
persons_valid n most = nodes_fit person_table (persons_of n) refl
    (omega (arith, length-map-range_with_len person 1 n))
    (list_all-map (fits_fields person_fields) person (up_to n) ∙ all_range (λ i. fits_fields person_fields (person i)) 1 n (λ i low high. person_fits i))
    (keyed person (λ i. int (pos i)) 1 n (λ i. refl) (λ i j low order high. other_numbers i j order))

cities_valid : (n : ℕ) → n ≤ 1000000 → are_nodes city_table (cities_of n) ≡ true
cities_valid n most = nodes_fit city_table (cities_of n) refl
    (omega (arith, length-map-range_with_len city 0 (city_count n)))
    (list_all-map (fits_fields city_fields) city (city_numbers (city_count n)) ∙ all_range (λ j. fits_fields city_fields (city j)) 0 (city_count n) (λ j low high. city_fits j))
    (keyed city code_of 0 (city_count n) (λ j. refl) (λ i j low order high. other_codes i j order (omega arith)))

-- ---- who knows whom

remainder : (x n : ℕ) → 0 < n → x % n + 1 - 1 < n
remainder x n h = omega (arith, mod_below x n h)

known_fits : (n i d : ℕ) → 1 ≤ i → i ≤ n → is_rel knows_fields n n (knows n i d) ≡ true
known_fits n i d low high =
    rw (less (i - 1) n (omega arith), less (d * (i + 1) % n + 1 - 1) n (remainder (d * (i + 1)) n (omega arith)), may_miss (d == 2) (2000 + (i + d) % 25)) refl

all_known_fit : (n i : ℕ) → 1 ≤ i → i ≤ n → list_all (is_rel knows_fields n n) (known_by n i) ≡ true
all_known_fit n i low high = list_all-map (is_rel knows_fields n n) (knows n i) (up_to (i % 4)) ∙ all_range (λ d. is_rel knows_fields n n (knows n i d)) 1 (i % 4) (λ d _ _. known_fits n i d low high)

few_known : (n i : ℕ) → length (known_by n i) ≤ 3
few_known n i = omega (arith, length-map-range_with_len (knows n i) 1 (i % 4), mod_below i 4 (omega arith))

few_knows : (n : ℕ) → length (knows_of n) ≤ n * 3
few_knows n = omega (arith, length-flat_map (known_by n) (up_to n), sum_by-le (λ i. length (known_by n i)) 3 (up_to n) (λ k d within. few_known n _), ap (λ l. l * 3) (length-range_with_len 1 n))

-- ---- who lives where

home_fits : (n i : ℕ) → 1 ≤ i → i ≤ n → is_rel [] n (city_count n) (lives_in n i) ≡ true
home_fits n i low high =
    rw (less (i - 1) n (omega arith), less (i % city_count n) (city_count n) (mod_below i (city_count n) (omega arith))) refl

few_homes : (n : ℕ) → length (homes_of n) ≤ n
few_homes n = omega (arith, length-map (filter has_home (up_to n)) (lives_in n), length-filter has_home (up_to n), count_by-le-length has_home (up_to n), length-range_with_len 1 n)

sources : (n : ℕ) (xs : List ℕ) → map (λ (r : PlainRel). r.source) (map (lives_in n) xs) ≡ map (λ i. i - 1) xs
sources n [] = refl
sources n (x ∷ xs) = ap (λ l. (x - 1) ∷ l) (sources n xs)

other_rows : (i j : ℕ) → 1 ≤ i → i < j → (i - 1 == j - 1) ≡ false
other_rows i j low h = grind (arith, nat_tests)

one_home : (n : ℕ) → all_distinct (λ a b. a == b) (map (λ (r : PlainRel). r.source) (homes_of n)) ≡ true
one_home n = ap (all_distinct (λ a b. a == b)) (sources n (filter has_home (up_to n)))
    ∙ distinct_filter (λ a b. a == b) (λ i. i - 1) has_home (up_to n) (distinct_range (λ a b. a == b) (λ i. i - 1) 1 n (λ i j low order high. other_rows i j low order))

-- ---- the graph

module _ (n : ℕ) (least : 1 ≤ n) (most : n ≤ 1000000) where
  abbrev nodes : List Rows
  nodes = persons_of n ∷ cities_of n ∷ []

  persons_count : row_count nodes 0 ≡ n
  persons_count = length-map-range_with_len person 1 n

  cities_count : row_count nodes 1 ≡ city_count n
  cities_count = length-map-range_with_len city 0 (city_count n)

  knows_valid : are_rels nodes knows_table (knows_of n) ≡ true
  knows_valid = rels_fit nodes knows_table (knows_of n) refl refl (omega (arith, few_knows n))
      (rw (persons_count) (all_flat_map (is_rel knows_fields n n) (known_by n) (up_to n)
      ∙ all_range (λ i. list_all (is_rel knows_fields n n) (known_by n i)) 1 n (λ i low high. all_known_fit n i low (omega arith))))
      refl

  homes_valid : are_rels nodes lives_in_table (homes_of n) ≡ true
  homes_valid = rels_fit nodes lives_in_table (homes_of n) refl refl (omega (arith, few_homes n))
      (rw (persons_count, cities_count) (list_all-map (is_rel [] n (city_count n)) (lives_in n) (filter has_home (up_to n))
      ∙ all_filter (λ i. is_rel [] n (city_count n) (lives_in n i)) has_home (up_to n) (all_range (λ i. is_rel [] n (city_count n) (lives_in n i)) 1 n (λ i low high. home_fits n i low (omega arith)))))
      (rw (one_home n) refl)

  pub sample_valid : is_valid (sample_graph n) ≡ true
  sample_valid = both (all_zip are_nodes sample_tables.nodes nodes) (all_zip (are_rels nodes) sample_tables.rels (knows_of n ∷ homes_of n ∷ []))
      (both (are_nodes person_table (persons_of n)) (are_nodes city_table (cities_of n) && true) (persons_valid n most) (rw (cities_valid n most) refl))
      (both (are_rels nodes knows_table (knows_of n)) (are_rels nodes lives_in_table (homes_of n) && true) knows_valid (rw homes_valid refl))

  -- a graph whose parts are those of the sample
  pub built_valid : (graph : Graph) → graph.catalog ≡ sample_tables → graph.nodes ≡ nodes → graph.rels ≡ knows_of n ∷ homes_of n ∷ [] → is_valid graph ≡ true
  built_valid graph tables rows rels =
      ap (λ (t : Tables). is_valid (record { catalog = t; nodes = graph.nodes; rels = graph.rels })) tables
      ∙ ap (λ (r : List Rows). is_valid (record { catalog = sample_tables; nodes = r; rels = graph.rels })) rows
      ∙ ap (λ (r : List (List PlainRel)). is_valid (record { catalog = sample_tables; nodes = nodes; rels = r })) rels
      ∙ sample_valid
