-- A text that reads is the text of the routine that it reads as, and that is well formed.
use Rattle.std.proofs.Common.{◌≡◌, ℕ, ◌≤◌, min, true, leb, List, [], ◌∷◌, ◌++◌, length, None, Ok, sym, refl, ap, ◌∙◌, subst, arith}
use Rattle.std.specs.List.{flat_map}
use Rattle.std.proofs.lemmas.List.{append_assoc, append-nil}
use Rattle.std.proofs.ByRecursion.{All-weaker}
use Rattle.std.proofs.lemmas.Bool.{false≢true, and_parts, eqb-true, leb-true}
use Rattle.layout.specs.declared.lines.Numbers.{Numbers}
use Rattle.layout.specs.Lines.{written}
use Rattle.layout.specs.Texts.{lines_of}
use Rattle.layout.proofs.TextsWritten.{texts_written}
use Rattle.sheet.specs.declared.kinds.Kind.TheVariants.{Head}
use Rattle.sheet.specs.declared.kinds.Entry.{Entry}
use Rattle.sheet.specs.declared.drafts.Stage.{Stage}
use Rattle.sheet.specs.declared.drafts.Stage.TheVariants.{Start, Headed, BeforeList, Rows}
use Rattle.sheet.specs.Kinds.{classes_of}
use Rattle.sheet.specs.Routines.{Routine}
use Rattle.sheet.specs.Written.{line_as, head_columns, lines_for, text_of}
use Rattle.sheet.specs.Formed.{WellFormed, RowFormed}
use Rattle.sheet.specs.Laws.{ReadsText}
use Rattle.sheet.specs.Reading.{Progress, start, next_by, head_scope, complete, all_lines, finished, onward, first_misplaced, heavy_piece, rows_tested, reading}
use Rattle.sheet.proofs.FirstFault.{right_where, rows_right, finished_right}
use Rattle.sheet.proofs.FormedSoFar.{HeadFits, RowFits, Sound, lines_at, at, adds}
use Rattle.sheet.proofs.KindsKnown.{fitting, Known, known}
use Rattle.sheet.proofs.LineRuns.{Runs, lines_run}
use Rattle.sheet.proofs.LinesTaken.{Right, right, taken}
use Rattle.sheet.proofs.RowPlaces.{misplaced_none}
use Rattle.sheet.proofs.WeightsExact.{heavy_none}

-- what a head that fits says
record HeadFormed (R : Routine) (n : ℕ) : Type 0 where
  own_number : R.own ≤ 15
  some_variable : 1 ≤ R.variables
  few_variables : R.variables ≤ 6
  few_arguments : R.arguments ≤ 2
  arguments_within : R.arguments ≤ R.variables
  few_ghosts : R.ghosts ≤ 2
  some_row : 1 ≤ n
  few_rows : n ≤ 40

head_facts : (R : Routine) (n : ℕ) → HeadFits R n → HeadFormed R n
head_facts R n h =
    let f = fitting (head_scope R.variables) (classes_of Head) (head_columns R n) h in
    let a = leb-true R.own 15 f.first in
    let b = and_parts (leb 1 R.variables) (leb R.variables 6) f.second in
    let c = and_parts (leb R.arguments 2) (leb R.arguments (min R.variables 6)) f.third in
    let d = leb-true R.ghosts 2 f.fourth in
    let e = and_parts (leb 1 n) (leb n 40) f.fifth in
    let g = leb-true R.arguments (min R.variables 6) c.1 in
    record {
      own_number = a;
      some_variable = leb-true 1 R.variables b.0;
      few_variables = leb-true R.variables 6 b.1;
      few_arguments = leb-true R.arguments 2 c.0;
      arguments_within = omega arith;
      few_ghosts = d;
      some_row = leb-true 1 n e.0;
      few_rows = leb-true n 40 e.1;
    }

abbrev SoundAt : Progress → Type 0
SoundAt p = Sound p.stage p.promised p.routine

abbrev lines : Progress → List Numbers
lines p = lines_at p.stage p.promised p.routine

one_line : (p : Progress) (l : Numbers) (e : Entry) → SoundAt p → Known l.kind e → Right p e l.operands → (q : Progress) → q ≡ next_by e.role p e.kind l.operands → SoundAt q × (lines q ≡ lines p ++ l ∷ [])
one_line p l e x k r q n =
    let c = k.of_kind in
    let v = l.operands in
    let s = subst (λ u. Right p u v) k.entry r in
    let g = adds p.stage p.promised p.routine v x c s.is_due s.fitting s.not_over in
    let m : line_as c v ≡ l = ap (λ (u : ℕ). record { kind = u; operands = v }) (sym k.number) in
    subst (λ u. SoundAt u × (lines u ≡ lines p ++ l ∷ [])) (sym (n ∙ ap (λ u. next_by u.role p u.kind v) k.entry)) (g.sound, g.lines ∙ ap (λ u. lines p ++ u ∷ []) m)

every_line : (p q : Progress) (ls : List Numbers) → SoundAt p → Runs p ls q → SoundAt q × (lines q ≡ lines p ++ ls)
every_line p q [] x r = subst (λ u. SoundAt u × (lines u ≡ lines p ++ [])) r (x, sym (append-nil (lines p)))
every_line p q (l ∷ ls) x r =
    let m = r.0 in
    let t = taken p m l r.1 in
    let a = one_line p l t.entry x (known l.kind t.entry t.found) (right p t.entry l.operands t.fine) m t.next in
    let b = every_line m q ls a.0 r.2 in
    (b.0, b.1 ∙ (ap (λ u. u ++ ls) a.1 ∙ append_assoc (lines p) (l ∷ []) ls))

-- behind the last line
formed : (R : Routine) → Sound Rows (length R.rows) R → first_misplaced R.rows 1 R.rows ≡ None → heavy_piece R.rows ≡ None → WellFormed R
formed R x a b =
    let h = head_facts R (length R.rows) x.begun.0 in
    let i = misplaced_none R.rows a in
    record {
      own_number = h.own_number;
      some_variable = h.some_variable;
      few_variables = h.few_variables;
      few_arguments = h.few_arguments;
      arguments_within = h.arguments_within;
      few_ghosts = h.few_ghosts;
      some_row = h.some_row;
      few_rows = h.few_rows;
      before_list = x.before_list;
      after_list = x.after_list;
      row_columns = All-weaker (RowFits R.variables R.ghosts (length R.rows)) (RowFormed R) (λ c f. record { columns = f.columns; list = f.list }) R.rows x.row_columns;
      few_atoms = x.few_atoms;
      in_place = i;
      light = heavy_none R.rows i b;
    }

whole : (s : Stage) (n : ℕ) (R S : Routine) → Sound s n R → complete (at s n R) ≡ true → rows_tested R ≡ Ok S → WellFormed S × (lines_at s n R ≡ lines_for S)
whole Start n R S x c r = absurd (false≢true c)
whole Headed n R S x c r = absurd (false≢true c)
whole BeforeList n R S x c r = absurd (false≢true c)
whole Rows n R S x c r =
    let e : n ≡ length R.rows = sym (eqb-true (length R.rows) n c) in
    let a = rows_right 114 (first_misplaced R.rows 1 R.rows) _ S r in
    let b = rows_right 115 (heavy_piece R.rows) _ S a.1 in
    let q = b.1 in
    let f : R ≡ S = cc in
    subst (λ T. WellFormed T × (lines_at Rows n R ≡ lines_for T)) f (formed R (subst (λ m. Sound Rows m R) e x) a.0 b.0, ap (λ m. lines_at Rows m R) e)

nothing_read : SoundAt start
nothing_read = record { begun = (refl, refl, refl); before_list = record { few = omega arith; names = tt }; after_list = record { few = omega arith; names = tt }; row_columns = tt; few_atoms = omega arith }

pub reads_text : ReadsText
unfolding reading text_of
reads_text t R r =
    let a = right_where (lines_of t) (λ ls. onward (all_lines start 1 ls) (λ p. finished (length ls) p)) R r in
    let ls = a.0 in
    let b = right_where (all_lines start 1 ls) (λ p. finished (length ls) p) R a.2 in
    let p = b.0 in
    let c = finished_right (length ls) p R b.2 in
    let g = every_line start p ls nothing_read (lines_run start p 1 ls b.1) in
    let w = whole p.stage p.promised p.routine R g.0 c.0 c.1 in
    (w.0, (texts_written t ls a.1).text ∙ ap (flat_map written) (sym g.1 ∙ w.1))
