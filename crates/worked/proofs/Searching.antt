-- Proofs: the verdict that the search computes, worked off to the end, is that of the meaning.
use Rattle.std.proofs.Common.{◌≡◌, ℕ, zero, suc, Bool, true, ◌||◌, List, [], ◌∷◌, ◌++◌, length, get_or, Some, None, Option, refl, subst, arith}
use Rattle.std.specs.List.{AllByRecursion}
use Rattle.std.proofs.lemmas.Bool.Decides.{nat_tests}
use Rattle.heap.specs.Lists.{renamed}
use Rattle.sheet.specs.Routines.{Command, assign, load, store, new, free, jump, branch, cut, call, done, Routine}
use Rattle.sheet.specs.Formed.{WellFormed}
use Rattle.pieces.specs.Flaws.{Verdict}
use Rattle.pieces.specs.Pieces.{State, Contract, Opening, from, given, behind, Misses, Lives, Breaks, Keeps, Judged}
use Rattle.pieces.specs.ModelChoices.{gather, lowest}
use Rattle.pieces.specs.ModelShapes.{Shape}
use Rattle.pieces.specs.ModelCases.{misses, breaks}
use Rattle.pieces.specs.ModelStages.{Item, Kept, Apart, opened, nexts_of, hits_of}
use Rattle.pieces.specs.ModelNeeded.{Enough, mentions, lean}
use Rattle.pieces.specs.ModelPiles.{drain}
use Rattle.pieces.specs.ModelSearch.{Swept, start_of, start_at, judge}
use Rattle.pieces.proofs.Choices.{all_gather}
use Rattle.pieces.proofs.CasesLead.{Decides, decides_misses, decides_breaks}
use Rattle.pieces.proofs.ItemsLead.{opened_kept}
use Rattle.pieces.proofs.PileWorked.{begin, drained}
use Rattle.pieces.proofs.VerdictsExact.{search_judges, apart_names, apart_kept}

-- no name is left out
abbrev pub every : ℕ → ℕ → Bool
every r n = true

-- where its names are told apart, the item of an opening can come up
opening_kept : (o : Opening) → Apart o.names → AllByRecursion Kept (opened (lean every o) ∷ [])
opening_kept o a = (opened_kept (lean every o) (apart_kept (λ n. mentions n o.list || true) o.names a), tt)

enough_every : (callee : ℕ → Contract) (R : Routine) → Enough callee R.after R.rows every
enough_every callee R r n e = refl

-- the items of all openings
abbrev pub starts : (ℕ → Contract) → Routine → List Item
starts callee R = gather (suc (length R.rows)) (start_at every callee R)

-- the rows at which the test says yes, if the turns suffice
abbrev pub rows_found : (Command → Shape → Bool) → (ℕ → Contract) → Routine → ℕ → Option (List ℕ)
rows_found test callee R turns = drain (nexts_of R.rows) (hits_of test R.rows) turns (starts callee R) []

abbrev pub judge_found : Option (List ℕ) → Option (List ℕ) → Option Verdict
judge_found None b = None
judge_found (Some d) None = None
judge_found (Some d) (Some b) = Some (judge (lowest d) (lowest b))

-- the verdict by the search, if the turns suffice
abbrev pub verdict_found : (ℕ → Contract) → Routine → ℕ → Option Verdict
verdict_found callee R turns = judge_found (rows_found misses callee R turns) (rows_found (breaks callee R.after) callee R turns)

-- the piece behind a row
kept_behind : (callee : ℕ → Contract) (names : List ℕ) → Apart names → (r : ℕ) (c : Command) → AllByRecursion Kept (start_of every (behind callee names r c))
kept_behind callee names a r (assign x e) = tt
kept_behind callee names a r (load x y) = tt
kept_behind callee names a r (store x e) = tt
kept_behind callee names a r (new x) = tt
kept_behind callee names a r (free x) = tt
kept_behind callee names a r (jump t) = tt
kept_behind callee names a r (branch e f t) = tt
kept_behind callee names a r (cut l) = opening_kept (record { names = names; list = l; row = r }) a
kept_behind callee names a r (call x q y z s t l) = opening_kept (record { names = names; list = renamed (given x 2 s t) (callee q).after ++ l; row = r }) a
kept_behind callee names a r done = tt

module _ (callee : ℕ → Contract) (R : Routine) (w : WellFormed R) where
  kept_at : (p : ℕ) → AllByRecursion Kept (start_at every callee R p)
  kept_at zero =
      let a = w.arguments_within in
      let v = w.few_variables in
      opening_kept (record { names = from 1 R.arguments ++ from 7 R.ghosts; list = R.before; row = 1 }) (apart_names 1 R.arguments R.ghosts (omega arith))
  kept_at (suc p) =
      let v = w.few_variables in
      kept_behind callee (from 1 R.variables ++ from 7 R.ghosts) (apart_names 1 R.variables R.ghosts (omega arith)) (suc (suc p)) (get_or R.rows p done)

  starts_kept : AllByRecursion Kept (starts callee R)
  starts_kept = all_gather Kept (suc (length R.rows)) (start_at every callee R) (λ p l. kept_at p)

  -- one test, with the pile worked off
  swept : (P S : Command → State → Type 0) (test : Command → Shape → Bool) → Decides P S test → (turns : ℕ) (seen : List ℕ) → rows_found test callee R turns ≡ Some seen → Swept P S R.rows (starts callee R) (lowest seen) []
  swept P S test D turns seen e = drained P S test D R.rows (starts callee R) turns (starts callee R) [] seen starts_kept (begin P S R.rows (starts callee R)) e

  found_judged : (turns : ℕ) (v : Verdict) (d b : Option (List ℕ)) → rows_found misses callee R turns ≡ d → rows_found (breaks callee R.after) callee R turns ≡ b → judge_found d b ≡ Some v → Judged callee R v
  found_judged turns v None b e f j = absurd (grind (arith, nat_tests))
  found_judged turns v (Some d) None e f j = absurd (grind (arith, nat_tests))
  found_judged turns v (Some d) (Some b) e f j =
      let u : judge (lowest d) (lowest b) ≡ v = cc in
      subst (λ v. Judged callee R v) u
      (search_judges callee R every (enough_every callee R) (length R.rows) (omega arith) (lowest d) (lowest b)
      (record { touching = swept Misses Lives misses decides_misses turns d e; closing = swept (Breaks callee R.after) (Keeps callee R.after) (breaks callee R.after) (decides_breaks callee R.after) turns b f }))

  pub verdict_judged : (turns : ℕ) (v : Verdict) → verdict_found callee R turns ≡ Some v → Judged callee R v
  verdict_judged turns v j = found_judged turns v (rows_found misses callee R turns) (rows_found (breaks callee R.after) callee R turns) refl refl j
