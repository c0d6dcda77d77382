use Rattle.qtt_run.proofs.Reading.{line-found, none-found, has-input}
use Rattle.qtt_run.proofs.lines.Lines.next.Goals as goal

pub returns-in-Line-clause-finds : goal.returns-in-Line-clause-finds
returns-in-Line-clause-finds g c = λ rest left.
    let told = g.S.Source.content in
    let cuts = rw c.in-Line.is at c.in_ok-line.ensures.cuts in
    let line = rw c.in-Line.is at c.in_ok-line.ensures.line in
    line-found c.args.self.now (record { cutter = c.next_line.new.self; at_end = c.args.self.now.at_end })
    (told c.args.source.now) (told c.next_line.new.source) c.in-Line.line rest c.if-self.false line.0 line.1 cuts left

pub returns-in-Line-clause-more : goal.returns-in-Line-clause-more
returns-in-Line-clause-more g c = λ _.
    has-input (record { cutter = c.next_line.new.self; at_end = c.args.self.now.at_end })
    (g.S.Source.content c.next_line.new.source)
    c.if-self.false

pub returns-in-TooLong-clause-finds : goal.returns-in-TooLong-clause-finds
returns-in-TooLong-clause-finds g c = λ rest left.
    let told = g.S.Source.content in
    none-found c.args.self.now (record { cutter = c.next_line.new.self; at_end = c.args.self.now.at_end })
    (told c.args.source.now) (told c.next_line.new.source) rest c.in_ok-line.field-0 c.if-self.false c.in-TooLong.is
    c.in_ok-line.ensures.cuts
