-- The two ways out of reading.
use Rattle.std.proofs.Common.{refl, subst}
use Rattle.std.proofs.lemmas.Result.{err_from_is_err_and}
use Rattle.sheet.specs.Formed.{WellFormed}
use Rattle.sheet.specs.Laid.{routine_in}
use Rattle.sheet.proofs.FirstFault.{refusals_first}
use Rattle.sheet.proofs.ReadPromises.{answer_is, filled_is, never_refused, reads_itself}
use Rattle.sheet.proofs.ReadsText.{reads_text}
use Rattle.sheet.proofs.sealed.Sheet.read.Goals as goal

pub returns-in_err-self-inside : goal.returns-in_err-self-inside
returns-in_err-self-inside c =
    let p = err_from_is_err_and c.from_residual.result c.from_residual.ensures.1 in
    let h = c.in_err-self-inside.ensures in
    let t = c.args.text.now in
    rw (p.1, p.2)
    (record {
      answer = answer_is t _ h;
      sheet = filled_is t c.args.self.now _ h;
      reads = h;
      written = refusals_first t _ h;
      every = λ R w q. absurd (never_refused t _ R h w q);
      formed = subst WellFormed c.self.view_is c.self.invariant.0;
    })

pub invariant_of-self : goal.invariant_of-self
invariant_of-self c = let h = c.in_ok-self-inside.ensures in ((reads_text c.args.text.now (routine_in c.in_ok-self-inside.field-0) h.0).0, h.1)

pub returns : goal.returns
returns c =
    let S = routine_in c.in_ok-self-inside.field-0 in
    let h = c.in_ok-self-inside.ensures.0 in
    let t = c.args.text.now in
    record {
      answer = answer_is t _ h;
      sheet = filled_is t c.args.self.now _ h;
      reads = h;
      written = reads_text t S h;
      every = λ R w q. (refl, reads_itself t S R h w q);
      formed = (reads_text t S h).0;
    }
