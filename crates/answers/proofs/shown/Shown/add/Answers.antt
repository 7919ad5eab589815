-- The part is copied in where the line ends.
use Rattle.std.proofs.Common.{◌≡◌, ◌+◌, ◌-◌, length, sym, ap, ◌∙◌, arith}
use Rattle.answers.specs.Padded.{padded}
use Rattle.answers.proofs.Adding.{added}
use Rattle.answers.proofs.shown.Shown.add.Goals as goal

pub invariant_of-self : goal.invariant_of-self
invariant_of-self c =
    let s = c.args.self.now in
    let p = c.args.part.now in
    let k : s.count + length p - s.count ≡ length p = omega arith in
    let a = added s.bytes p c.copy_from_slice.new.self s.count (s.count + length p - s.count) s.few s.filled c.copy_from_slice.ensures.after k c.requires in
    record { few = c.requires; filled = a.1 ∙ sym (ap padded a.0) }

pub returns-clause-text : goal.returns-clause-text
returns-clause-text c =
    let s = c.args.self.now in
    let p = c.args.part.now in
    let k : s.count + length p - s.count ≡ length p = omega arith in
    (added s.bytes p c.copy_from_slice.new.self s.count (s.count + length p - s.count) s.few s.filled c.copy_from_slice.ensures.after k c.requires).0
