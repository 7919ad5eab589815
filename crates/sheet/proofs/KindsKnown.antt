-- Each entry that the table gives for a number is that of a kind with the number.
use Rattle.std.proofs.Common.{◌≡◌, ℕ, ◌≤◌, true, eqb, leb, List, [], ◌∷◌, Some, sym, refl, ◌∙◌, inl, inr, arith}
use Rattle.std.proofs.lemmas.Bool.{cases_Bool, cond-true, cond-false, eqb-true, and_parts, leb-true}
use Rattle.layout.specs.declared.lines.Six.{Six}
use Rattle.sheet.specs.declared.kinds.Kind.{Kind}
use Rattle.sheet.specs.declared.kinds.Kind.TheVariants.{Head, Before, After, Equal, Unequal, Cell, Segment, Set, Load, Store, New, Free, Jump, Branch, Cut, Call, Done}
use Rattle.sheet.specs.declared.kinds.Role.TheVariants as role
use Rattle.sheet.specs.declared.kinds.Class.{Class}
use Rattle.sheet.specs.declared.kinds.Entry.{Entry}
use Rattle.sheet.specs.declared.kinds.Scope.{Scope}
use Rattle.sheet.specs.Kinds.{code_of, entry_of, entries, kinds, table, entry_for, allowed, fits, role_of, classes_of}

pub record Known (n : ℕ) (e : Entry) : Type 0 where
  pub of_kind : Kind
  pub entry : e ≡ entry_of of_kind
  pub number : n ≡ code_of of_kind

known_in : (n : ℕ) (e : Entry) (ks : List Kind) → entry_for n (entries ks) ≡ Some e → Known n e
known_in n e [] h = let z : ◌≡◌ {A = ℕ} 0 1 = cc in absurd (omega arith)
known_in n e (k ∷ ks) h = elim (cases_Bool (eqb (code_of k) n)) [
  | inl t ↦
      let f : Some (entry_of k) ≡ Some e = sym (cond-true (eqb (code_of k) n) (Some (entry_of k)) (entry_for n (entries ks)) t) ∙ h in
      record { of_kind = k; entry = cc; number = sym (eqb-true (code_of k) n t) }
  | inr f ↦ known_in n e ks (sym (cond-false (eqb (code_of k) n) (Some (entry_of k)) (entry_for n (entries ks)) f) ∙ h)
]

pub known : (n : ℕ) (e : Entry) → entry_for n table ≡ Some e → Known n e
known n e h = known_in n e kinds h

-- and each kind is found by its number
pub found : (k : Kind) → entry_for (code_of k) table ≡ Some (entry_of k)
found Head = refl
found Before = refl
found After = refl
found Equal = refl
found Unequal = refl
found Cell = refl
found Segment = refl
found Set = refl
found Load = refl
found Store = refl
found New = refl
found Free = refl
found Jump = refl
found Branch = refl
found Cut = refl
found Call = refl
found Done = refl

-- the six columns, one by one
pub record Fitting (s : Scope) (c : Six Class) (v : Six ℕ) : Type 0 where
  pub first : allowed s c.first v.first ≡ true
  pub second : allowed s c.second v.second ≡ true
  pub third : allowed s c.third v.third ≡ true
  pub fourth : allowed s c.fourth v.fourth ≡ true
  pub fifth : allowed s c.fifth v.fifth ≡ true
  pub sixth : allowed s c.sixth v.sixth ≡ true

pub fitting : (s : Scope) (c : Six Class) (v : Six ℕ) → fits s c v ≡ true → Fitting s c v
fitting s c v h =
    let a = and_parts (allowed s c.first v.first) _ h in
    let b = and_parts (allowed s c.second v.second) _ a.1 in
    let d = and_parts (allowed s c.third v.third) _ b.1 in
    let e = and_parts (allowed s c.fourth v.fourth) _ d.1 in
    let f = and_parts (allowed s c.fifth v.fifth) _ e.1 in
    record { first = a.0; second = b.0; third = d.0; fourth = e.0; fifth = f.0; sixth = f.1 }

-- only the head has its role, and it promises at most 40 rows
differ : role.Row ≡ role.Head → ⊥
differ h = let z : ◌≡◌ {A = ℕ} 0 1 = cc in omega arith

differ_atom : role.Atom ≡ role.Head → ⊥
differ_atom h = let z : ◌≡◌ {A = ℕ} 0 1 = cc in omega arith

differ_before : role.Before ≡ role.Head → ⊥
differ_before h = let z : ◌≡◌ {A = ℕ} 0 1 = cc in omega arith

differ_after : role.After ≡ role.Head → ⊥
differ_after h = let z : ◌≡◌ {A = ℕ} 0 1 = cc in omega arith

pub is_head : (k : Kind) → role_of k ≡ role.Head → k ≡ Head
is_head Head h = refl
is_head Before h = absurd (differ_before h)
is_head After h = absurd (differ_after h)
is_head Equal h = absurd (differ_atom h)
is_head Unequal h = absurd (differ_atom h)
is_head Cell h = absurd (differ_atom h)
is_head Segment h = absurd (differ_atom h)
is_head Set h = absurd (differ h)
is_head Load h = absurd (differ h)
is_head Store h = absurd (differ h)
is_head New h = absurd (differ h)
is_head Free h = absurd (differ h)
is_head Jump h = absurd (differ h)
is_head Branch h = absurd (differ h)
is_head Cut h = absurd (differ h)
is_head Call h = absurd (differ h)
is_head Done h = absurd (differ h)

pub rows_promised : (s : Scope) (v : Six ℕ) → fits s (classes_of Head) v ≡ true → v.fifth ≤ 40
rows_promised s v h = leb-true v.fifth 40 (and_parts (leb 1 v.fifth) (leb v.fifth 40) (fitting s (classes_of Head) v h).fifth).1
