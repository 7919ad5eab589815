-- Proofs: a case leads where the cases behind it lead; and the tests of a case decide what holds of its states.
use Rattle.std.proofs.Common.{◌≡◌, ℕ, Bool, true, false, ◌≢◌, ◌⊎◌, List, Some, None, Option, sym, refl, ap, ◌∙◌, subst, inl, inr, arith}
use Rattle.std.proofs.lemmas.Bool.Decides.{nat_tests}
use Rattle.heap.specs.declared.atoms.Atom.{Atom}
use Rattle.sheet.specs.Routines.{Command}
use Rattle.sheet.specs.Flow.{row_at}
use Rattle.pieces.specs.Pieces.{State, Does, Runs, here, on, Contract, touched, closing, Misses, Lives, Breaks, Keeps}
use Rattle.pieces.specs.ModelChoices.{SomeOf}
use Rattle.pieces.specs.ModelShapes.{Shape, Fits, SoundShape}
use Rattle.pieces.specs.ModelCover.{is_dead}
use Rattle.pieces.specs.ModelCases.{Case, nexts, onward, Of, Leads, dead_at, misses, uncovered, breaks}
use Rattle.pieces.proofs.ShapeModels.{cases_edge}
use Rattle.pieces.proofs.ShapeSteps.{dead_node}
use Rattle.pieces.proofs.TwoCells.{canon, canon_model, same}
use Rattle.pieces.proofs.Decided.{covered_holds, uncovered_fails}
use Rattle.pieces.proofs.Choices.{some_map, some_pull}
use Rattle.pieces.proofs.RowsExact.{step_to, step_from}

module _ (rows : List Command) (g : State) where
  go : (c : Case) → SoundShape c.shape → (s : State) → Of c s → Runs rows g s → Of c g ⊎ SomeOf (Leads rows g) (onward rows c)
  go c w s O here = inl O
  go c w s O (on {u = u} d t) =
      inr (some_map (λ a. Of a u) (Leads rows g) (λ a o. (u, o, t)) (onward rows c)
      (subst (λ n. SomeOf (λ a. Of a u) (nexts (row_at rows n) n c.shape)) O.0 (step_to (row_at rows s.row) c.shape s u w O.1 d)))

  pub leads_to : (c : Case) → SoundShape c.shape → Leads rows g c → Of c g ⊎ SomeOf (Leads rows g) (onward rows c)
  leads_to c w (s, O, t) = go c w s O t

  pub leads_from : (c : Case) → SoundShape c.shape → SomeOf (Leads rows g) (onward rows c) → Leads rows g c
  leads_from c w S =
      let x = some_pull (λ (d : (u : State) × Runs rows g u) a. Of a d.0) (onward rows c) (some_map (Leads rows g) (λ a. (d : (u : State) × Runs rows g u) × Of a d.0) (λ a y. ((y.0, y.2), y.1)) (onward rows c) S) in
      let y = step_from (row_at rows c.row) c.shape c.row x.0.0 w x.1 in
      (y.0.0, (y.0.1, y.1), on (subst (λ n. Does (row_at rows n) y.0.0 x.0.0) (sym y.0.1) y.0.2) x.0.1)

-- where the test is false, S holds of every state of the shape; where it is true, P holds of some
pub record Decides (P S : Command → State → Type 0) (test : Command → Shape → Bool) : Type 0 where
  pub clear : (row : Command) (s : Shape) (st : State) → SoundShape s → Fits s st.env st.heap → test row s ≡ false → S row st
  pub there : (row : Command) (s : Shape) (r : ℕ) → SoundShape s → test row s ≡ true → (st : State) × (st.row ≡ r) × Fits s st.env st.heap × P row st

live_some : (o : Option ℕ) → o ≢ None → (v : ℕ) × (o ≡ Some v)
live_some None n = absurd (n refl)
live_some (Some v) n = (v, refl)

alive : (row : Command) (s : Shape) (st : State) → SoundShape s → Fits s st.env st.heap → misses row s ≡ false → Lives row st
alive row s st w F t x e =
    live_some (st.heap (st.env x)) (λ d.
    let z = dead_node s.size s.edge F.val st.heap F.model (s.name x) (w.names_in x) (ap st.heap (sym (F.named x)) ∙ d) in
    let q : is_dead (s.edge (s.name x)) ≡ false = rw e at t in grind (arith, nat_tests))

missing : (row : Command) (s : Shape) (r : ℕ) → SoundShape s → (o : Option ℕ) → touched row ≡ o → dead_at o s ≡ true → (st : State) × (st.row ≡ r) × Fits s st.env st.heap × Misses row st
missing row s r w None e t = absurd (grind (arith, nat_tests))
missing row s r w (Some x) e t =
    let M = canon_model s.size s.edge s.name w in (
      record { row = r; env = s.name; heap = canon s.size s.edge },
      refl,
      record { val = same; model = M; named = λ n. refl },
      (x, e, (M.dead (s.name x) (w.names_in x) (elim (cases_edge (s.edge (s.name x))) [ inl d ↦ d | inr d ↦ absurd (grind (arith, nat_tests)) ])).0),
    )

pub decides_misses : Decides Misses Lives misses
decides_misses = record { clear = alive; there = λ row s r w t. missing row s r w (touched row) refl t }

module _ (callee : ℕ → Contract) (after : List Atom) where
  holding : (row : Command) (s : Shape) (st : State) → SoundShape s → Fits s st.env st.heap → breaks callee after row s ≡ false → Keeps callee after row st
  holding row s st w F t l e =
      let q : uncovered (Some l) s ≡ false = rw e at t in
      covered_holds s l w (grind (arith, nat_tests)) st.env st.heap F

  breaking : (row : Command) (s : Shape) (r : ℕ) → SoundShape s → (o : Option (List Atom)) → closing callee after row ≡ o → uncovered o s ≡ true → (st : State) × (st.row ≡ r) × Fits s st.env st.heap × Breaks callee after row st
  breaking row s r w None e t = absurd (grind (arith, nat_tests))
  breaking row s r w (Some l) e t =
      let k = uncovered_fails s l w (grind (arith, nat_tests)) in
      (record { row = r; env = k.0; heap = k.1 }, refl, k.2, (l, e, k.3))

  pub decides_breaks : Decides (Breaks callee after) (Keeps callee after) (breaks callee after)
  decides_breaks = record { clear = holding; there = λ row s r w t. breaking row s r w (closing callee after row) refl t }
