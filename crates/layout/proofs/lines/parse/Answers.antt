-- Seven columns, and byte 10 behind them or not.
use Rattle.std.proofs.Common.{sym, ◌∙◌, rules}
use Rattle.layout.proofs.LinesExact.{columned, some_if}
use Rattle.layout.proofs.lines.parse.Goals as goal

pub returns : goal.returns
returns c =
    c.then_some.ensures
    ∙ some_if _ _
    ∙ sym (columned c.args.bytes.now
    (record {
      kind = c.in_ok-kind.kind;
      operands = record {
        first = c.in_ok-first.first;
        second = c.in_ok-second.second;
        third = c.in_ok-third.third;
        fourth = c.in_ok-fourth.fourth;
        fifth = c.in_ok-fifth.fifth;
        sixth = c.in_ok-sixth.sixth;
      };
    })
    (record {
      kind = search rules;
      first = search rules;
      second = search rules;
      third = search rules;
      fourth = search rules;
      fifth = search rules;
      sixth = search rules;
    }))
