-- What one read of a record takes from the records that a reader has left.
use Rattle.std.proofs.Common.{◌≡◌, ℕ, zero, suc, ◌+◌, ◌-◌, ◌<◌, ◌≤◌, Bool, true, false, List, [], ◌∷◌, length, Some, None, IfSome, refl, ap, ◌∙◌, arith, subst, add-one, inl}
use Rattle.std.specs.Prelude.{if◌then◌else◌, ◌==◌, ◌&&◌, IsSome}
use Rattle.std.specs.Bool.{MatchBool, OnTrue}
use Rattle.std.specs.Borrow.{Bor}
use Rattle.std.specs.declared.option.Option.{Option}
use Rattle.csv.specs.Machine.{Read, after_end, ends_at_end, ends_with, in_field, is_byte, is_end, start_field, start_record, next_record, step}
use Rattle.csv.specs.Reading.{Reached, ReadRecord, default_config, records_from, records_next, took_first}
use Rattle.csv.specs.declared.parser.Config.{Config}
use Rattle.csv.specs.declared.parser.Terminator.{Terminator}
use Rattle.csv.specs.declared.parser.Terminator.TheVariants as term
use Rattle.csv.specs.declared.parser.State.{State}
use Rattle.csv.specs.declared.parser.State.TheVariants as st
use Rattle.csv.specs.declared.parser.Action.{Action}
use Rattle.csv.specs.declared.parser.Action.TheVariants as act
use Rattle.csv.specs.declared.reader.Reader.{Reader}
use Rattle.csv.proofs.ReadFacts.{rows-end, rows-more}
use Rattle.gq_tables.specs.steps.Unread.{IsOpen, bytes_left, records_after, records_left}

-- where a step ends a record, the state after it is between records
record IsBetween (r : State × Action) : Type 0 where
  held : is_end r.1 ≡ true → ends_at_end r.0 ≡ false

either : (b : Bool) (x y : State × Action) → IsBetween x → IsBetween y → IsBetween (if b then x else y)
either true x y p q = p
either false x y p q = q

between-after_end : (t : Terminator) (c : ℕ) → ends_at_end (after_end t c) ≡ false
between-after_end term.CRLF c = elim (c == 13) as (λ b. ends_at_end (if b then st.AfterCr else st.StartRecord) ≡ false) [ true ↦ refl | false ↦ refl ]
between-after_end (term.Any t) c = refl

skips : (s : State) → IsBetween (s, act.Skip)
skips s = record { held = λ e. cc e }

copies : (s : State) → IsBetween (s, act.Copy)
copies s = record { held = λ e. cc e }

ends_field : (s : State) → IsBetween (s, act.EndField)
ends_field s = record { held = λ e. cc e }

between-in_field : (cfg : Config) (c : ℕ) → IsBetween (in_field cfg c)
between-in_field cfg c =
    let last = either (ends_with cfg.terminator c) (after_end cfg.terminator c, act.EndRecord) (st.InField, act.Copy) (record { held = λ _. between-after_end cfg.terminator c }) (copies _) in
    either (c == cfg.delimiter) (st.StartField, act.EndField) _ (ends_field _) last

between-start_field : (cfg : Config) (c : ℕ) → IsBetween (start_field cfg c)
between-start_field cfg c = either (cfg.quoting && (c == cfg.quote)) (st.InQuoted, act.Skip) (in_field cfg c) (skips _) (between-in_field cfg c)

between-start_record : (cfg : Config) (c : ℕ) → IsBetween (start_record cfg c)
between-start_record cfg c =
    let last = either (is_byte cfg.comment c) (st.InComment, act.Skip) (start_field cfg c) (skips _) (between-start_field cfg c) in
    either (ends_with cfg.terminator c) (st.StartRecord, act.Skip) _ (skips _) last

between-in_quoted : (cfg : Config) (c : ℕ) → IsBetween (step cfg st.InQuoted c)
between-in_quoted cfg c =
    let last = either (cfg.quoting && is_byte cfg.escape c) (st.InEscape, act.Skip) (st.InQuoted, act.Copy) (skips _) (copies _) in
    either (cfg.quoting && (c == cfg.quote)) (st.AfterQuote, act.Skip) _ (skips _) last

between-step : (cfg : Config) (s : State) (c : ℕ) → IsBetween (step cfg s c)
between-step cfg st.StartRecord c = between-start_record cfg c
between-step cfg st.StartField c = between-start_field cfg c
between-step cfg st.InField c = between-in_field cfg c
between-step cfg st.InQuoted c = between-in_quoted cfg c
between-step cfg st.InEscape c = copies _
between-step cfg st.AfterQuote c = either (cfg.quoting && cfg.double_quote && (c == cfg.quote)) (st.InQuoted, act.Copy) (in_field cfg c) (copies _) (between-in_field cfg c)
between-step cfg st.InComment c = either (c == 10) (st.StartRecord, act.Skip) (st.InComment, act.Skip) (skips _) (skips _)
between-step cfg st.AfterCr c = either (c == 10) (st.StartRecord, act.Skip) (start_record cfg c) (skips _) (between-start_record cfg c)

-- a record takes at least a byte, if there is one, and leaves the text between records
pub record Leaves (xs : List ℕ) (p : Read) : Type 0 where
  pub less : length p.2 ≤ length xs - 1
  pub between : ends_at_end p.1 ≡ false

at_end : (b : Bool) (r : List (List ℕ)) → IfSome (if b then Some (r, st.StartRecord, []) else None) (Leaves [])
at_end true r = record { less = omega arith; between = refl }
at_end false r = tt

one_more : (c : ℕ) (rest : List ℕ) (o : Option Read) → IfSome o (Leaves rest) → IfSome o (Leaves (c ∷ rest))
one_more c rest None h = tt
one_more c rest (Some p) h = record { less = grind (arith, h.less); between = h.between }

at_byte : (b : Bool) (c : ℕ) (rest : List ℕ) (r : List (List ℕ)) (s : State) (o : Option Read) → (b ≡ true → ends_at_end s ≡ false) → IfSome o (Leaves rest)
    → IfSome (if b then Some (r, s, rest) else o) (Leaves (c ∷ rest))
at_byte true c rest r s o between h = record { less = grind arith; between = between refl }
at_byte false c rest r s o between h = one_more c rest o h

next-leaves : (cfg : Config) (s : State) (f : List (List ℕ)) (field xs : List ℕ) → IfSome (next_record cfg s f field xs) (Leaves xs)
unfolding next_record
next-leaves cfg s f field [] = at_end _ _
next-leaves cfg s f field (c ∷ rest) =
    at_byte (is_end (step cfg s c).1) c rest _ (step cfg s c).0 _ (between-step cfg s c).held (next-leaves cfg (step cfg s c).0 _ _ rest)

pub not_at_end : (cfg : Config) (s : State) (xs : List ℕ) (p : Read) → ends_at_end s ≡ false → next_record cfg s [] [] xs ≡ Some p → 0 < length xs
unfolding next_record
not_at_end cfg s [] p between e = let none = rw between at e in cc none
not_at_end cfg s (c ∷ rest) p between e = grind arith

pub left_by : (cfg : Config) (s : State) (xs : List ℕ) (p : Read) → next_record cfg s [] [] xs ≡ Some p → Leaves xs p
left_by cfg s xs p e = let P : Option Read → Type 0 = λ o. IfSome o (Leaves xs) in subst P e (next-leaves cfg s [] [] xs)

same_tails : (f g : State → List ℕ → List (List (List ℕ))) (o : Option Read) → ((p : Read) → o ≡ Some p → f p.1 p.2 ≡ g p.1 p.2) → records_next f o ≡ records_next g o
same_tails f g None h = refl
same_tails f g (Some p) h = ap (λ l. p.0 ∷ l) (h p refl)

-- any bound past the length gives all records
enough : (cfg : Config) (n m : ℕ) (s : State) (xs : List ℕ) → ends_at_end s ≡ false → length xs < n → length xs < m → records_from cfg n s xs ≡ records_from cfg m s xs
unfolding records_from
enough cfg zero m s xs between a b = absurd (omega arith)
enough cfg (suc n) zero s xs between a b = absurd (omega arith)
enough cfg (suc n) (suc m) s xs between a b =
    same_tails (records_from cfg n) (records_from cfg m) (next_record cfg s [] [] xs)
    (λ p e.
    let left = left_by cfg s xs p e in
    let some = not_at_end cfg s xs p between e in
    enough cfg n m p.1 p.2 left.between (omega (arith, left.less)) (omega (arith, left.less)))

-- the records that are left, where there is a next one and where there is none
taken : (s : State) (xs : List ℕ) (p : Read) → ends_at_end s ≡ false → next_record default_config s [] [] xs ≡ Some p
    → records_after s (Some xs) ≡ p.0 ∷ records_after p.1 (Some p.2)
unfolding records_from
taken s xs p between e =
    let left = left_by default_config s xs p e in
    let some = not_at_end default_config s xs p between e in
    rw (add-one (length xs), e) (ap (λ l. p.0 ∷ l) (enough default_config (length xs) (length p.2 + 1) p.1 p.2 left.between (omega (arith, left.less)) (omega arith)))

none_left : (s : State) (xs : List ℕ) → next_record default_config s [] [] xs ≡ None → records_after s (Some xs) ≡ []
unfolding records_from
none_left s xs e = rw (add-one (length xs), e) refl

abbrev told : Bor (List ℕ) → Option (List ℕ)
told bytes = Some bytes.now

-- what a read does to an open reader
pub record Takes (old new : Reader (Bor (List ℕ))) (found : Bool) (fields : List (List ℕ)) : Type 0 where
  pub is_open : OnTrue found (IsOpen new)
  pub next : MatchBool found (records_left old ≡ fields ∷ records_left new) (records_left old ≡ [])

some_is : (o : Option (List ℕ)) → IsSome o → (x : List ℕ) × (o ≡ Some x)
some_is None h = cc h
some_is (Some x) h = (x, refl)

joined : (s s2 : State) (a b : Option (List ℕ)) (xs z : List ℕ) (p : Read) (fields : List (List ℕ)) → a ≡ Some xs → b ≡ Some z → p.1 ≡ s2 → p.2 ≡ z → fields ≡ p.0
    → ends_at_end s ≡ false → next_record default_config s [] [] xs ≡ Some p → records_after s a ≡ fields ∷ records_after s2 b
joined s s2 a b xs z p fields is left state rest same between next = rw (is, left, ← state, ← rest, same) (taken s xs p between next)

-- the read gave a record
found_one : (old new : Reader (Bor (List ℕ))) (fields : List (List ℕ)) → IsOpen old → took_first new ≡ true → ReadRecord told old new true fields → Takes old new true fields
unfolding Reached
found_one old new fields h first r =
    let (xs, is) = some_is (bytes_left old) h.known in
    let m = rows-more told old new fields default_config old.state xs xs [] h.config is (refl, refl) r in
    let (p, next, same, (state, rest)) = m.2 in
    let left = left_by default_config old.state xs p next in
    record {
      is_open = record { trim = r.3 ∙ h.trim; ready = inl first; config = r.2 ∙ h.config; known = rw m.1 refl; between = rw state at left.between };
      next = joined old.state new.state (bytes_left old) (bytes_left new) xs m.0 p fields is m.1 state rest same h.between next;
    }

pub takes : (old new : Reader (Bor (List ℕ))) (found : Bool) (fields : List (List ℕ)) → IsOpen old → took_first new ≡ true → ReadRecord told old new found fields → Takes old new found fields
takes old new true fields h first r = found_one old new fields h first r
takes old new false fields h first r =
    let (xs, is) = some_is (bytes_left old) h.known in
    record {
      is_open = tt;
      next = rw is (none_left old.state xs (rows-end told old new fields default_config xs h.config is r));
    }
