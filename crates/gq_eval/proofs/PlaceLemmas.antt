-- Places that begin with those of an expression, and what a byte of them says.
use Rattle.std.proofs.Common.{◌≡◌, ℕ, ◌+◌, ◌<◌, ◌≤◌, true, cond, Option, Some, None, List, [], ◌∷◌, ◌++◌, map, length, drop, get_or, append_assoc, refl, sym, ap, ◌∙◌, subst, arith}
use Rattle.std.specs.Prelude.{IfSome, nat_eq, slice_get}
use Rattle.std.specs.Option.{option_map}
use Rattle.std.proofs.Math.Seq.{drop-append_seam}
use Rattle.std.proofs.lemmas.Bool.Decides.{nat_tests}
use Rattle.std.proofs.lemmas.List.{drop_more}
use Rattle.std.proofs.lemmas.Option.{get_or_from_slice_get, slice_get-map, slice_get_within}
use Rattle.gq_base.proofs.ListFacts.{found_within}
use Rattle.gq_base.specs.Catalogs.{find_field}
use Rattle.gq_base.specs.Plain.{Graph}
use Rattle.gq_base.specs.Valid.{is_valid}
use Rattle.gq_base.specs.declared.catalog.Field.{Field}
use Rattle.gq_base.specs.declared.catalog.NodeTable.{NodeTable}
use Rattle.gq_base.specs.declared.catalog.RelTable.{RelTable}
use Rattle.gq_store.proofs.Validity.{node_table, rel_table}
use Rattle.gq_store.specs.Cells.{node_fields, node_fields_of, rel_fields, rel_fields_of}
use Rattle.gq_eval.specs.steps.Places.{Leads, byte_place, node_places, past, place_byte, rel_places}

-- ---- places that begin with others

past_is : (a m p : List ℕ) → p ≡ a ++ m → past a p ≡ m
past_is a m p e = ap (drop (length a)) e ∙ drop-append_seam a m

begins : (a m p : List ℕ) → p ≡ a ++ m → Leads a p
begins a m p e = record { is = e ∙ ap (λ l. a ++ l) (sym (past_is a m p e)) }

split : (a b p : List ℕ) → Leads (a ++ b) p → p ≡ a ++ (b ++ past (a ++ b) p)
split a b p h = h.is ∙ append_assoc a b (past (a ++ b) p)

pub leads_over : {a b p : List ℕ} → a ≡ b → Leads a p → Leads b p
leads_over {p = p} same h = subst (λ l. Leads l p) same h

leads_first : (a b p : List ℕ) → Leads (a ++ b) p → Leads a p
leads_first a b p h = begins a (b ++ past (a ++ b) p) p (split a b p h)

leads_rest : (a b p : List ℕ) → Leads (a ++ b) p → Leads b (past a p)
leads_rest a b p h = begins b (past (a ++ b) p) (past a p) (past_is a _ p (split a b p h))

past_both : (a b p : List ℕ) → Leads (a ++ b) p → past b (past a p) ≡ past (a ++ b) p
past_both a b p h = past_is b (past (a ++ b) p) (past a p) (past_is a _ p (split a b p h))

-- the places of a first part, of what is behind it, and of both
pub chain_first : {whole p : List ℕ} (a b : List ℕ) → whole ≡ a ++ b → Leads whole p → Leads a p
chain_first {p = p} a b same h = leads_first a b p (leads_over same h)

pub chain_rest : {whole p q : List ℕ} (a b : List ℕ) → whole ≡ a ++ b → Leads whole p → q ≡ past a p → Leads b q
chain_rest {p = p} a b same h behind = subst (λ l. Leads b l) (sym behind) (leads_rest a b p (leads_over same h))

pub chain_past : {whole p q : List ℕ} (a b : List ℕ) → whole ≡ a ++ b → Leads whole p → q ≡ past a p → past b q ≡ past whole p
chain_past {p = p} a b same h behind = ap (past b) behind ∙ past_both a b p (leads_over same h) ∙ ap (λ l. past l p) (sym same)

-- ---- bytes

place_back : (found : Option ℕ) → ((at : ℕ) → found ≡ Some at → at < 255) → byte_place (place_byte found) ≡ found
place_back None few = refl
place_back (Some at) few = go (few at refl)
  where
    go : at < 255 → cond (nat_eq at 255) None (Some at) ≡ Some at
    go low = grind (arith, nat_tests, low)

few_fields : (fields : List Field) (name : List ℕ) → length fields ≤ 64 → (at : ℕ) → find_field fields name ≡ Some at → at < 255
few_fields fields name few at is = let low : at < length fields = found_within _ fields at is in omega arith

byte_at : {T : Type 0} (fields : T → List Field) (name : List ℕ) (tables : List T) (table : ℕ) (t : T) (places : List ℕ) → places ≡ map (λ u. place_byte (find_field (fields u) name)) tables → slice_get tables table ≡ Some t
    → get_or places table 0 ≡ place_byte (find_field (fields t) name)
byte_at fields name tables table t places is there =
    get_or_from_slice_get places table _ 0
    (ap (λ (l : List ℕ). slice_get l table) is ∙ slice_get-map (λ u. place_byte (find_field (fields u) name)) tables table ∙ ap (option_map (λ u. place_byte (find_field (fields u) name))) there)

pub few_place : (place : Option ℕ) (count : ℕ) → IfSome place (λ at. at < count) → count ≤ 64 → IfSome place (λ at. at < 255)
few_place None count within few = tt
few_place (Some at) count within few = omega (arith, within)

-- one more table
pub table_more : {T : Type 0} (f : T → ℕ) (tables : List T) (i : ℕ) (t : T) (before after all : List ℕ) (byte : ℕ) → slice_get tables i ≡ Some t → byte ≡ f t → after ≡ before ++ byte ∷ []
    → before ++ map f (drop i tables) ≡ all → after ++ map f (drop (i + 1) tables) ≡ all
table_more f tables i t before after all byte there is pushed so_far =
    let first : drop i tables ≡ t ∷ drop (i + 1) tables =
    drop_more tables i t (slice_get_within tables i t there) ∙ ap (λ u. u ∷ drop (i + 1) tables) (get_or_from_slice_get tables i t t there) in
    ap (λ l. l ++ map f (drop (i + 1) tables)) (pushed ∙ ap (λ b. before ++ b ∷ []) is)
    ∙ append_assoc before (f t ∷ []) (map f (drop (i + 1) tables))
    ∙ ap (λ l. before ++ map f l) (sym first)
    ∙ so_far

-- the byte of a node table says where its fields have the name
pub node_found : (g : Graph) (name : List ℕ) (table : ℕ) (places : List ℕ) → is_valid g ≡ true → table < length g.catalog.nodes → places ≡ node_places g.catalog name
    → byte_place (get_or places table 0) ≡ find_field (node_fields g table) name
node_found g name table places valid within is =
    let (t, more) = node_table g table valid within in
    let (rows, k) = more in
    ap byte_place (byte_at (λ (u : NodeTable). u.fields) name g.catalog.nodes table t places is k.table_is)
    ∙ place_back (find_field t.fields name) (few_fields t.fields name k.fields)
    ∙ ap (λ o. find_field (node_fields_of o) name) (sym k.table_is)

pub rel_found : (g : Graph) (name : List ℕ) (table : ℕ) (places : List ℕ) → is_valid g ≡ true → table < length g.catalog.rels → places ≡ rel_places g.catalog name
    → byte_place (get_or places table 0) ≡ find_field (rel_fields g table) name
rel_found g name table places valid within is =
    let (t, more) = rel_table g table valid within in
    let (rows, k) = more in
    ap byte_place (byte_at (λ (u : RelTable). u.fields) name g.catalog.rels table t places is k.table_is)
    ∙ place_back (find_field t.fields name) (few_fields t.fields name k.fields)
    ∙ ap (λ o. find_field (rel_fields_of o) name) (sym k.table_is)
