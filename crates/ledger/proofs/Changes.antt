-- Proofs: what the records mean after one of them was written.
use Rattle.std.proofs.Common.{◌≡◌, ℕ, zero, suc, ◌<◌, ◌≤◌, true, false, cond, ◌&&◌, eqb, leb, ◌⊎◌, List, [], ◌∷◌, length, get_or, set, is_some, Some, None, Option, sym, refl, ap, ◌∙◌, inl, inr, ⊎_elim, arith}
use Rattle.heap.specs.Heaps.{put, without}
use Rattle.ledger.specs.declared.records.Record.{Record}
use Rattle.std.proofs.lemmas.Bool.Decides.{nat_tests}
use Rattle.ledger.proofs.Places.{record_live}
use Rattle.ledger.specs.Counts.{nil_dead}
use Rattle.ledger.specs.Records.{cells, proper, sound, unused}

-- new may stand for old: it has the same address, or one that is not live
abbrev pub Allowed : List Record → Record → Record → Type 0
Allowed rs old new = (new.address ≡ old.address) ⊎ (is_some (cells rs new.address) ≡ false)

pub record Parts (r : Record) (rs : List Record) : Type 0 where
  pub proper : proper r ≡ true
  pub apart : is_some (cells rs r.address) ≡ false
  pub sound : sound rs ≡ true

pub parts : (r : Record) (rs : List Record) → sound (r ∷ rs) ≡ true → Parts r rs
parts r rs fine = record { proper = grind (arith, nat_tests); apart = grind (arith, nat_tests); sound = grind (arith, nat_tests) }

-- an address that is dead with r is dead without it, and is not that of r
dead_less : (r : Record) (rs : List Record) (a : ℕ) → is_some (cells (r ∷ rs) a) ≡ false → is_some (cells rs a) ≡ false
dead_less r rs a dead = grind (arith, nat_tests)

dead_other : (r : Record) (rs : List Record) (a : ℕ) → 1 ≤ a → is_some (cells (r ∷ rs) a) ≡ false → a ≡ r.address → ⊥
dead_other r rs a low dead e = grind (arith, nat_tests)

allowed_less : (r : Record) (rs : List Record) (old new : Record) → Allowed (r ∷ rs) old new → Allowed rs old new
allowed_less r rs old new ok = ⊎_elim inl (λ dead. inr (dead_less r rs new.address dead)) ok

-- a record before place i has neither the address there nor the new one
apart_old : (r : Record) (rs : List Record) (i : ℕ) → is_some (cells rs r.address) ≡ false → i < length rs → 1 ≤ r.address → r.address ≡ (get_or rs i unused).address → ⊥
apart_old r rs i apart lt low e =
    let live = record_live rs i unused lt (omega arith) in
    let q : is_some (cells rs r.address) ≡ is_some (cells rs (get_or rs i unused).address) = ap (λ a. is_some (cells rs a)) e in
    grind (arith, nat_tests)

apart_new : (r : Record) (rs : List Record) (i : ℕ) (new : Record) → is_some (cells rs r.address) ≡ false → i < length rs → 1 ≤ r.address → Allowed (r ∷ rs) (get_or rs i unused) new → r.address ≡ new.address → ⊥
apart_new r rs i new apart lt low ok e =
    ⊎_elim (λ same. apart_old r rs i apart lt low (e ∙ same)) (λ dead. dead_other r rs new.address (omega arith) dead (sym e)) ok

-- a record in use is a cell
pub record_cell : (rs : List Record) (i : ℕ) → sound rs ≡ true → i < length rs → 1 ≤ (get_or rs i unused).address → cells rs (get_or rs i unused).address ≡ Some (get_or rs i unused).link
record_cell [] i fine lt low = absurd (omega arith)
record_cell (r ∷ rs) zero fine lt low = grind (arith, nat_tests)
record_cell (r ∷ rs) (suc i) fine lt low =
    let p = parts r rs fine in
    let under : i < length rs = omega arith in
    let before = record_cell rs i p.sound under low in
    let ne : (get_or rs i unused).address ≡ r.address → ⊥ = λ e. apart_old r rs i p.apart under (omega arith) (sym e) in
    grind (arith, nat_tests)

-- no two records in use have the same address
pub records_apart : (rs : List Record) (i j : ℕ) → sound rs ≡ true → i < j → j < length rs → 1 ≤ (get_or rs i unused).address → (get_or rs i unused).address ≡ (get_or rs j unused).address → ⊥
records_apart [] i j fine less lt low e = omega arith
records_apart (r ∷ rs) i zero fine less lt low e = omega arith
records_apart (r ∷ rs) zero (suc j) fine less lt low e = apart_old r rs j (parts r rs fine).apart (omega arith) low e
records_apart (r ∷ rs) (suc i) (suc j) fine less lt low e = records_apart rs i j (parts r rs fine).sound (omega arith) (omega arith) low e

none_from : (o : Option ℕ) → is_some o ≡ false → o ≡ None
none_from (Some l) e = cc
none_from None e = refl

-- what the records say of k after new was written over record i
pub cells-set : (rs : List Record) (i : ℕ) (new : Record) → sound rs ≡ true → i < length rs → Allowed rs (get_or rs i unused) new → (k : ℕ) → cells (set rs i new) k ≡ cond (leb 1 k && eqb k new.address) (Some new.link) (cond (eqb k (get_or rs i unused).address) None (cells rs k))
cells-set [] i new fine lt ok k = absurd (omega arith)
cells-set (r ∷ rs) zero new fine lt ok k =
    let apart = none_from (cells rs r.address) (parts r rs fine).apart in
    let same : k ≡ r.address → cells rs k ≡ None = λ e. ap (cells rs) e ∙ apart in
    grind (arith, nat_tests)
cells-set (r ∷ rs) (suc i) new fine lt ok k =
    let p = parts r rs fine in
    let under : i < length rs = omega arith in
    let before = cells-set rs i new p.sound under (allowed_less r rs (get_or rs i unused) new ok) k in
    let old = apart_old r rs i p.apart under in
    let other = λ (low : 1 ≤ r.address). apart_new r rs i new p.apart under low ok in
    grind (arith, nat_tests)

whole : (r : Record) (rs : List Record) → proper r ≡ true → is_some (cells rs r.address) ≡ false → sound rs ≡ true → sound (r ∷ rs) ≡ true
whole r rs p apart fine = grind (arith, nat_tests)

-- the records are sound with new in place of record i
pub sound-set : (rs : List Record) (i : ℕ) (new : Record) → sound rs ≡ true → i < length rs → Allowed rs (get_or rs i unused) new → proper new ≡ true → sound (set rs i new) ≡ true
sound-set [] i new fine lt ok p = absurd (omega arith)
sound-set (r ∷ rs) zero new fine lt ok p = whole new rs p (⊎_elim (λ same. ap (λ a. is_some (cells rs a)) same ∙ (parts r rs fine).apart) (dead_less r rs new.address) ok) (parts r rs fine).sound
sound-set (r ∷ rs) (suc i) new fine lt ok p =
    let q = parts r rs fine in
    let under : i < length rs = omega arith in
    let less : Allowed rs (get_or rs i unused) new = allowed_less r rs (get_or rs i unused) new ok in
    let after = cells-set rs i new q.sound under less r.address in
    let other = λ (low : 1 ≤ r.address). apart_new r rs i new q.apart under low ok in
    whole r (set rs i new) q.proper (grind (arith, nat_tests)) (sound-set rs i new q.sound under less p)

-- record i is that of a, or unused while a is dead
abbrev pub Vacant : List Record → ℕ → ℕ → Type 0
Vacant rs i a = ((get_or rs i unused).address ≡ a) ⊎ (((get_or rs i unused).address ≡ 0) × (is_some (cells rs a) ≡ false))

pub allowed_vacant : (rs : List Record) (i a l : ℕ) → Vacant rs i a → Allowed rs (get_or rs i unused) (record { address = a; link = l })
allowed_vacant rs i a l ok = ⊎_elim (λ e. inl (sym e)) (λ p. inr p.1) ok

-- writing a cell's record gives the cell its link
pub cells-put : (rs : List Record) (i a l : ℕ) → sound rs ≡ true → i < length rs → 1 ≤ a → Vacant rs i a → (k : ℕ) → cells (set rs i (record { address = a; link = l })) k ≡ put (cells rs) a l k
cells-put rs i a l fine lt low ok k =
    let after = cells-set rs i (record { address = a; link = l }) fine lt (allowed_vacant rs i a l ok) k in
    let nil = nil_dead rs in
    grind (arith, nat_tests)

allowed_unused : (rs : List Record) (old : Record) → Allowed rs old unused
allowed_unused rs old = inr (ap is_some (nil_dead rs))

-- clearing a cell's record takes the cell out
pub cells-without : (rs : List Record) (i a : ℕ) → sound rs ≡ true → i < length rs → (get_or rs i unused).address ≡ a → (k : ℕ) → cells (set rs i unused) k ≡ without (cells rs) a k
cells-without rs i a fine lt own k = let after = cells-set rs i unused fine lt (allowed_unused rs (get_or rs i unused)) k in grind (arith, nat_tests)

pub sound-without : (rs : List Record) (i : ℕ) → sound rs ≡ true → i < length rs → sound (set rs i unused) ≡ true
sound-without rs i fine lt = sound-set rs i unused fine lt (allowed_unused rs (get_or rs i unused)) refl

pub sound-put : (rs : List Record) (i a l : ℕ) → sound rs ≡ true → i < length rs → 1 ≤ a → a ≤ 4095 → l ≤ 65534 → Vacant rs i a → sound (set rs i (record { address = a; link = l })) ≡ true
sound-put rs i a l fine lt low high most ok = sound-set rs i (record { address = a; link = l }) fine lt (allowed_vacant rs i a l ok) (grind (arith, nat_tests))
