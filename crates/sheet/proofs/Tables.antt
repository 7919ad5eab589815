-- The search through the table of kinds, step by step.
use Rattle.std.proofs.Common.{◌≡◌, ℕ, ◌+◌, ◌<◌, ◌≤◌, eqb, List, length, get_or, drop, Some, None, ◌∙◌}
use Rattle.std.proofs.lemmas.List.{at_drop_more, at_drop_all}
use Rattle.std.proofs.lemmas.Bool.{cond-true, cond-false, eq-eqb, ne_eqb}
use Rattle.sheet.specs.declared.kinds.Entry.{Entry}
use Rattle.sheet.specs.declared.kinds.Kind.TheVariants.{Head}
use Rattle.sheet.specs.declared.kinds.Role.TheVariants as role
use Rattle.sheet.specs.declared.kinds.Class.TheVariants.{Unused}
use Rattle.sheet.specs.Kinds.{entry_for}

-- what stands past the end of a table
abbrev pub no_entry : Entry
no_entry = record { code = 0; kind = Head; role = role.Head; classes = record { first = Unused; second = Unused; third = Unused; fourth = Unused; fifth = Unused; sixth = Unused }; weight = 0 }

pub found_here : (n : ℕ) (es : List Entry) (i : ℕ) → i < length es → (get_or es i no_entry).code ≡ n → entry_for n (drop i es) ≡ Some (get_or es i no_entry)
found_here n es i h e = at_drop_more (entry_for n) es i no_entry h ∙ cond-true (eqb (get_or es i no_entry).code n) (Some (get_or es i no_entry)) (entry_for n (drop (i + 1) es)) (eq-eqb (get_or es i no_entry).code n e)

pub found_later : (n : ℕ) (es : List Entry) (i : ℕ) → i < length es → ((get_or es i no_entry).code ≡ n → ⊥) → entry_for n (drop i es) ≡ entry_for n (drop (i + 1) es)
found_later n es i h ne = at_drop_more (entry_for n) es i no_entry h ∙ cond-false (eqb (get_or es i no_entry).code n) (Some (get_or es i no_entry)) (entry_for n (drop (i + 1) es)) (ne_eqb (get_or es i no_entry).code n ne)

pub found_nowhere : (n : ℕ) (es : List Entry) (i : ℕ) → length es ≤ i → entry_for n (drop i es) ≡ None
found_nowhere n es i h = at_drop_all (entry_for n) es i h
