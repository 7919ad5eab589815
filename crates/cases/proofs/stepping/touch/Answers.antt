-- Both halves of a split segment are sound.
use Rattle.std.proofs.Common.{sym, subst, rules}
use Rattle.pieces.specs.ModelShapes.{SoundShape}
use Rattle.cases.specs.Items.{shape_of}
use Rattle.cases.proofs.Splits.{split_sound}
use Rattle.cases.proofs.stepping.touch.Goals as goal

pub act-requires-in-Segment : goal.act-requires-in-Segment
act-requires-in-Segment g c =
    let w = split_sound (shape_of c.args.case) c.node-i.result c.in-Segment.t c.requires.ready.sound (search rules) (search rules) in
    c.requires.callable c.longer.result (subst SoundShape (sym c.longer.ensures.shape) w.1) (search rules)

pub act-requires-in-Segment-2 : goal.act-requires-in-Segment-2
act-requires-in-Segment-2 g c =
    let w = split_sound (shape_of c.args.case) c.node-i.result c.in-Segment.t c.requires.ready.sound (search rules) (search rules) in
    c.requires.callable c.shorter.result (subst SoundShape (sym c.shorter.ensures.shape) w.0) (search rules)
