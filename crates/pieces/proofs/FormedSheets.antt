-- Proofs: a sheet's type says that its routine is well formed, and what follows of numbers holds of it outright.
use Rattle.std.proofs.Common.{◌≡◌, ℕ, ◌≤◌, Bool, true, false, length, get_or, refl, arith}
use mathlib.Core.Logic.{∥∥₁_elim}
use native.Mathlib.Bridge.{le_prop}
use Rattle.std.proofs.lemmas.Bool.Decides.{nat_tests}
use Rattle.heap.specs.declared.atoms.Atom.{Atom}
use Rattle.heap.specs.declared.atoms.Atom.TheVariants.{Eq, Neq, Next, Lseg}
use Rattle.sheet.specs.Routines.{Command, assign, load, store, new, free, jump, branch, cut, call, done, Routine, list_of}
use Rattle.sheet.specs.Formed.{WellFormed}
use Rattle.sheet.specs.Flow.{row_at}
use Rattle.pieces.specs.ModelCases.{goes_well}
use Rattle.pieces.specs.ModelBounds.{Small, AtomSmall, WeighsAt, weight_from, Formed}
use Rattle.pieces.proofs.FormedRows.{all_at, rows_small, row_list, before_names, after_names, forward, weighs, opening_is}

module _ {A : Type 0} (w : ∥ A ∥₁) where
  tested : (b : Bool) → (A → b ≡ true) → b ≡ true
  tested true f = refl
  tested false f = absurd (let n : 1 ≤ 0 = ∥∥₁_elim w le_prop (λ a. let t = f a in absurd (grind (arith, nat_tests))) in omega arith)

  atom_so : (a : Atom) → (A → AtomSmall a) → AtomSmall a
  atom_so (Eq x y) f = (∥∥₁_elim w le_prop (λ a. (f a).0), ∥∥₁_elim w le_prop (λ a. (f a).1))
  atom_so (Neq x y) f = (∥∥₁_elim w le_prop (λ a. (f a).0), ∥∥₁_elim w le_prop (λ a. (f a).1))
  atom_so (Next x y) f = (∥∥₁_elim w le_prop (λ a. (f a).0), ∥∥₁_elim w le_prop (λ a. (f a).1))
  atom_so (Lseg x y) f = (∥∥₁_elim w le_prop (λ a. (f a).0), ∥∥₁_elim w le_prop (λ a. (f a).1))

  small_so : (n : ℕ) (c : Command) → (A → Small n c) → Small n c
  small_so n (assign x e) f = (∥∥₁_elim w le_prop (λ a. (f a).0), ∥∥₁_elim w le_prop (λ a. (f a).1))
  small_so n (load x y) f = (∥∥₁_elim w le_prop (λ a. (f a).0), ∥∥₁_elim w le_prop (λ a. (f a).1))
  small_so n (store x e) f = (∥∥₁_elim w le_prop (λ a. (f a).0), ∥∥₁_elim w le_prop (λ a. (f a).1))
  small_so n (new x) f = ∥∥₁_elim w le_prop f
  small_so n (free x) f = ∥∥₁_elim w le_prop f
  small_so n (jump t) f = (∥∥₁_elim w le_prop (λ a. (f a).0), ∥∥₁_elim w le_prop (λ a. (f a).1))
  small_so n (branch e g t) f = (∥∥₁_elim w le_prop (λ a. (f a).0), ∥∥₁_elim w le_prop (λ a. (f a).1), ∥∥₁_elim w le_prop (λ a. (f a).2), ∥∥₁_elim w le_prop (λ a. (f a).3))
  small_so n (cut l) f = tt
  small_so n (call x q y z s t l) f = (∥∥₁_elim w le_prop (λ a. (f a).0), ∥∥₁_elim w le_prop (λ a. (f a).1), ∥∥₁_elim w le_prop (λ a. (f a).2), ∥∥₁_elim w le_prop (λ a. (f a).3), ∥∥₁_elim w le_prop (λ a. (f a).4), ∥∥₁_elim w le_prop (λ a. (f a).5))
  small_so n done f = tt

  weighs_so : (W : ℕ → ℕ) (r : ℕ) (c : Command) → (A → WeighsAt W r c) → WeighsAt W r c
  weighs_so W r (assign x e) f = ∥∥₁_elim w le_prop f
  weighs_so W r (load x y) f = ∥∥₁_elim w le_prop f
  weighs_so W r (store x e) f = ∥∥₁_elim w le_prop f
  weighs_so W r (new x) f = ∥∥₁_elim w le_prop f
  weighs_so W r (free x) f = ∥∥₁_elim w le_prop f
  weighs_so W r (jump t) f = ∥∥₁_elim w le_prop f
  weighs_so W r (branch e g t) f = (∥∥₁_elim w le_prop (λ a. (f a).0), ∥∥₁_elim w le_prop (λ a. (f a).1))
  weighs_so W r (cut l) f = tt
  weighs_so W r (call x q y z s t l) f = tt
  weighs_so W r done f = tt

pub sheet_formed : (R : Routine) → ∥ WellFormed R ∥₁ → Formed R
sheet_formed R w = record {
  few_rows = ∥∥₁_elim w le_prop (λ F. F.few_rows);
  few_variables = ∥∥₁_elim w le_prop (λ F. F.few_variables);
  few_arguments = ∥∥₁_elim w le_prop (λ F. let a = F.few_arguments in omega arith);
  few_ghosts = ∥∥₁_elim w le_prop (λ F. F.few_ghosts);
  forward = λ n. tested w (goes_well R.rows n (row_at R.rows n)) (λ F. forward R F n);
  weighs = λ r. weighs_so w (weight_from R.rows) r (row_at R.rows r) (λ F. weighs R F r);
  small = λ r. small_so w (length R.rows) (row_at R.rows r) (λ F. rows_small R F r);
  light = λ callee p o e. ∥∥₁_elim w le_prop (λ F. (opening_is R F callee p o e).light);
  low = λ callee p o e. ∥∥₁_elim w le_prop (λ F. (opening_is R F callee p o e).low);
  row_few = λ i. ∥∥₁_elim w le_prop (λ F. (row_list R F i).0);
  row_atoms = λ i k d q. atom_so w (get_or (list_of (get_or R.rows i done)) k d) (λ F. all_at AtomSmall (list_of (get_or R.rows i done)) d k (row_list R F i).1 q);
  before_few = ∥∥₁_elim w le_prop (λ F. F.before_list.few);
  before_atoms = λ k d q. atom_so w (get_or R.before k d) (λ F. all_at AtomSmall R.before d k (before_names R F) q);
  after_few = ∥∥₁_elim w le_prop (λ F. F.after_list.few);
  after_atoms = λ k d q. atom_so w (get_or R.after k d) (λ F. all_at AtomSmall R.after d k (after_names R F) q);
}
