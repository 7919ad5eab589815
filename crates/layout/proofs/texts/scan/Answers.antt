-- What scan leaves to show: each way out by the definition of a text's lines, and by the laws over it.
use Rattle.std.proofs.Common.{◌≡◌, ◌+◌, ◌/◌, ◌<◌, true, false, length, Ok, Err, sym, ap, ◌∙◌, add-one, arith, rules}
use Rattle.std.proofs.lemmas.Bool.Decides.{nat_tests}
use Rattle.std.proofs.lemmas.Result.{err_from_is_err_and}
use Rattle.layout.specs.Lines.{numbers_in}
use Rattle.layout.specs.Texts.{bad_length, first_lines}
use Rattle.layout.proofs.TextsExact.{one_line, broken_line, good_length, bad_length_lem, part_is}
use Rattle.layout.proofs.TextsWritten.{texts_written, texts_refused}
use Rattle.layout.proofs.texts.scan.Goals as goal

pub returns-in_err-numbers_of : goal.returns-in_err-numbers_of
returns-in_err-numbers_of c =
    let t = c.args.text.now in
    let k = c.loop-k.k in
    let p = err_from_is_err_and c.from_residual.result c.from_residual.ensures.1 in
    let none = c.in_err-numbers_of.ensures in
    let g : bad_length (length t) ≡ false = grind (arith, nat_tests) in
    let n = c.as_chunks.ensures.front_len in
    let h : k < length t / 29 = omega arith in
    let d = good_length t g
    ∙ (broken_line t (length t / 29) k c.loop-k.lines.items c.loop-k.invariant.1
    (ap numbers_in (sym (part_is t _ k c.as_chunks.ensures.front h)) ∙ none.0) h
    ∙ ap Err (rw add-one at (sym none.1))) in
    rw (p.1, p.2) (record { defined = d; written = texts_refused t _ d })

pub loop-k-preserved : goal.loop-k-preserved
loop-k-preserved c =
    let t = c.args.text.now in
    let k = c.loop-k.k in
    let l = c.in_ok-numbers_of.field-0 in
    let n = c.as_chunks.ensures.front_len in
    let h : k < length t / 29 = omega arith in (
      c.push.ensures.len ∙ ap (λ n. n + 1) c.loop-k.invariant.0,
      rw (add-one) (one_line t k c.loop-k.lines.items l c.loop-k.invariant.1
          (ap numbers_in (sym (part_is t _ k c.as_chunks.ensures.front h)) ∙ c.in_ok-numbers_of.ensures) ∙ ap Ok (sym c.push.ensures.items)),
    )

pub returns-then-is_empty : goal.returns-then-is_empty
returns-then-is_empty c =
    let t = c.args.text.now in
    let b : bad_length (length t) ≡ true = search rules in
    let d = bad_length_lem t b ∙ ap Err (sym c.at.ensures) in
    record { defined = d; written = texts_refused t _ d }

pub returns : goal.returns
returns c =
    let t = c.args.text.now in
    let g : bad_length (length t) ≡ false = grind (arith, nat_tests) in
    let n = c.as_chunks.ensures.front_len in
    let k : c.loop-k.k ≡ length t / 29 = omega arith in
    let d = good_length t g ∙ (ap (λ n. first_lines n t) (sym k) ∙ c.loop-k.invariant.1) in
    record { defined = d; written = texts_written t _ d }
