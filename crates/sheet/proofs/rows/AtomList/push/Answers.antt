-- One atom more in a filled list.
use Rattle.sheet.proofs.LaidBack.{pushed_laid}
use Rattle.sheet.proofs.rows.AtomList.push.Goals as goal

pub returns : goal.returns
returns c =
    let p = pushed_laid c.args.self.now c.args.atom c.requires.lies c.requires.room in
    let n = c.from.ensures in
    cc
