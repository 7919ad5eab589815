-- Proofs: the items behind an item, by indexes and by steps.
use Rattle.std.proofs.Common.{◌≡◌, ℕ, zero, suc, ◌+◌, ◌<◌, ◌≤◌, cond, not, ◌||◌, eqb, List, [], ◌∷◌, ◌++◌, length, get_or, drop, refl, ap, ◌∙◌, inl, inr}
use Rattle.std.specs.List.{flat_map}
use Rattle.std.proofs.lemmas.List.{at_drop_more, at_drop_all}
use Rattle.std.proofs.lemmas.Bool.{cases_Bool}
use Rattle.heap.specs.declared.atoms.Atom.{Atom}
use Rattle.heap.specs.declared.atoms.Atom.TheVariants.{Eq, Neq, Next, Lseg}
use Rattle.sheet.specs.Routines.{Command, assign, load, store, new, free, jump, branch, cut, call, done}
use Rattle.sheet.specs.Flow.{row_at}
use Rattle.pieces.specs.declared.shapes.Edge.TheVariants.{Dead}
use Rattle.pieces.specs.ModelChoices.{gather}
use Rattle.pieces.specs.ModelCover.{is_dead}
use Rattle.pieces.specs.ModelShapes.{Shape, set_name, add_node, fresh_at, new_apart}
use Rattle.pieces.specs.ModelCases.{at, nexts, cells, misses}
use Rattle.pieces.specs.ModelStages.{Stage, placing, adding, linking, running, Item, item, placed, afters}
use Rattle.cases.specs.declared.cases.Case as code
use Rattle.cases.specs.declared.cases.Stage as code_stage
use Rattle.cases.specs.Items.{shape_of, stage_in, items_in, LaidAs}
use Rattle.cases.proofs.Laying.{item_is}
use Rattle.cases.specs.Openings.{placings, addings, afters_by}
use Rattle.cases.specs.Steps.{step_of, loaded, stored, freed, nexts_by, new_at, misses_by}

flat-each : (f : Shape → List Item) (g : ℕ → Shape) (m : ℕ) → flat_map f (gather m (λ k. g k ∷ [])) ≡ gather m (λ k. f (g k))
flat-each f g zero = refl
flat-each f g (suc m) = ap (λ l. f (g m) ++ l) (flat-each f g m)

pub behind_placing : (names : List ℕ) (l : List Atom) (k r : ℕ) (s : Shape) → k < length names → afters [] (placing (drop k names) l) r s ≡ placings names l k r s
behind_placing names l k r s q =
    at_drop_more (λ cs. afters [] (placing cs l) r s) names k 0 q
    ∙ ap (λ x. placed (drop (k + 1) names) l r (set_name (add_node s Dead) (get_or names k 0) s.size) ++ x) (flat-each (placed (drop (k + 1) names) l r) (set_name s (get_or names k 0)) s.size)

pub behind_placed : (names : List ℕ) (l : List Atom) (k r : ℕ) (s : Shape) → length names ≤ k → afters [] (placing (drop k names) l) r s ≡ item (adding l) r s
behind_placed names l k r s q = at_drop_all (λ cs. afters [] (placing cs l) r s) names k q

added : (a : Atom) (l : List Atom) (r : ℕ) (s : Shape) → afters [] (adding (a ∷ l)) r s ≡ addings a l r s
added (Eq x y) l r s = elim (cases_Bool (eqb (s.name x) (s.name y))) [ inl t ↦ rw t | inr t ↦ rw t ]
added (Neq x y) l r s = elim (cases_Bool (eqb (s.name x) (s.name y))) [ inl t ↦ rw t | inr t ↦ rw t ]
added (Next x y) l r s = elim (cases_Bool (eqb (s.name x) 0)) [
  | inl t ↦ rw t
  | inr t ↦ elim (cases_Bool (is_dead (s.edge (s.name x)))) [ inl d ↦ rw (t, d) | inr d ↦ rw (t, d) ]
]
added (Lseg x y) l r s = refl

pub behind_adding : (atoms : List Atom) (d : Atom) (k r : ℕ) (s : Shape) → k < length atoms → afters [] (adding (drop k atoms)) r s ≡ addings (get_or atoms k d) (drop (k + 1) atoms) r s
behind_adding atoms d k r s q = at_drop_more (λ l. afters [] (adding l) r s) atoms k d q ∙ added (get_or atoms k d) (drop (k + 1) atoms) r s

pub behind_added : (atoms : List Atom) (k r : ℕ) (s : Shape) → length atoms ≤ k → afters [] (adding (drop k atoms)) r s ≡ item running r s
behind_added atoms k r s q = at_drop_all (λ l. afters [] (adding l) r s) atoms k q

-- rows by their steps
flat-touch : (f : Shape → Shape) (r : ℕ) (us : List Shape) → flat_map (λ c. item running c.row c.shape) (flat_map (λ u. at r (f u)) us) ≡ flat_map (λ u. item running r (f u)) us
flat-touch f r [] = refl
flat-touch f r (u ∷ us) = ap (λ l. item running r (f u) ++ l) (flat-touch f r us)

flat-new : (x r : ℕ) (s : Shape) (m : ℕ) → flat_map (λ c. item running c.row c.shape) (gather m (λ j. cond (eqb j 0 || not (is_dead (s.edge j))) [] (at (suc r) (fresh_at s x j)))) ≡ gather m (new_at x r s)
flat-new x r s zero = refl
flat-new x r s (suc m) =
    let ih = flat-new x r s m in
    elim (cases_Bool (eqb m 0 || not (is_dead (s.edge m)))) [ inl t ↦ rw t ih | inr t ↦ rw t (ap (λ l. item running (suc r) (fresh_at s x m) ++ l) ih) ]

pub by_step : (w : Command) (r : ℕ) (s : Shape) → flat_map (λ c. item running c.row c.shape) (nexts w r s) ≡ nexts_by (step_of w) r s
by_step (assign x e) r s = refl
by_step (load x y) r s = flat-touch (loaded x y) (suc r) (cells s (s.name y))
by_step (store x e) r s = flat-touch (stored x e) (suc r) (cells s (s.name x))
by_step (new x) r s = ap (λ l. item running (suc r) (new_apart s x) ++ l) (flat-new x r s s.size)
by_step (free x) r s = flat-touch (freed x) (suc r) (cells s (s.name x))
by_step (jump t) r s = refl
by_step (branch e f t) r s = elim (cases_Bool (eqb (s.name e) (s.name f))) [ inl b ↦ rw b | inr b ↦ rw b ]
by_step (cut l) r s = refl
by_step (call x q y z i j l) r s = refl
by_step done r s = refl

placing_any : (rows : List Command) (cs : List ℕ) (l : List Atom) (r : ℕ) (s : Shape) → afters rows (placing cs l) r s ≡ afters [] (placing cs l) r s
placing_any rows [] l r s = refl
placing_any rows (c ∷ cs) l r s = refl

adding_any : (rows : List Command) (l : List Atom) (r : ℕ) (s : Shape) → afters rows (adding l) r s ≡ afters [] (adding l) r s
adding_any rows [] r s = refl
adding_any rows (Eq x y ∷ l) r s = refl
adding_any rows (Neq x y ∷ l) r s = refl
adding_any rows (Next x y ∷ l) r s = refl
adding_any rows (Lseg x y ∷ l) r s = refl

pub behind_by : (rows : List Command) (t : Stage) (r : ℕ) (s : Shape) → afters rows t r s ≡ afters_by (step_of (row_at rows r)) t r s
behind_by rows (placing cs l) r s = placing_any rows cs l r s
behind_by rows (adding l) r s = adding_any rows l r s
behind_by rows (linking i j l) r s = refl
behind_by rows running r s = by_step (row_at rows r) r s

pub misses-by : (w : Command) (s : Shape) → misses w s ≡ misses_by (step_of w) s
misses-by (assign x e) s = refl
misses-by (load x y) s = refl
misses-by (store x e) s = refl
misses-by (new x) s = refl
misses-by (free x) s = refl
misses-by (jump t) s = refl
misses-by (branch e f t) s = refl
misses-by (cut l) s = refl
misses-by (call x q y z i j l) s = refl
misses-by done s = refl

-- one case more on the pile
pub laid_one : (names : List ℕ) (atoms : List Atom) (k : code.Case) (t : code_stage.Stage) (r : ℕ) (s : Shape) (p q : List code.Case) → k.stage ≡ t → k.row ≡ r → shape_of k ≡ s → q ≡ k ∷ p → LaidAs names atoms (item (stage_in names atoms t) r s) p q
laid_one names atoms k t r s p q a b c e = ap (items_in names atoms) e ∙ ap (λ l. l ++ items_in names atoms p) (item_is names atoms k t r s a b c)
