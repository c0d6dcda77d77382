use Rattle.std.proofs.Common.{◌∙◌, ap, refl}
use Rattle.qtt_prims.specs.declared.lit.Lit.TheVariants as literal
use Rattle.qtt_code.specs.Value.{Value, Values, ◌▹◌}
use Rattle.qtt_run.specs.Stop.{failure}
use Rattle.qtt_run.proofs.Stepping.{turn-failed, underway-broken, underway-reading, found-line, found-end, found-bad, line-given}
use Rattle.qtt_run.proofs.Valued.{con-of-none, con-of-text}
use Rattle.qtt_run.proofs.running.Running.get_line.Goals as goal

pub returns-in_err-text-clause-turns : goal.returns-in_err-text-clause-turns
returns-in_err-text-clause-turns g c = λ o u a.
    turn-failed failure o _ _ _ u _ c.from_residual.result c.from_residual.ensures.1
    (underway-reading c.args.self.now a _)

pub returns-in_err-text-in-Line-clause-turns : goal.returns-in_err-text-in-Line-clause-turns
returns-in_err-text-in-Line-clause-turns g c = λ o u a.
    turn-failed failure o _ _ _ u _ c.from_residual-in_err-text-in-Line.result
    c.from_residual-in_err-text-in-Line.ensures.1
    (underway-broken c.args.self.now a)

pub returns-in_err-fields-in-Line-clause-turns : goal.returns-in_err-fields-in-Line-clause-turns
returns-in_err-fields-in-Line-clause-turns g c = λ o u a.
    turn-failed failure o _ _ _ u _ c.from_residual-in_err-fields-in-Line.result
    c.from_residual-in_err-fields-in-Line.ensures.1
    (underway-broken c.args.self.now a)

pub returns-in_err-give_line-in-Line-clause-turns : goal.returns-in_err-give_line-in-Line-clause-turns
returns-in_err-give_line-in-Line-clause-turns g c = λ o u a.
    let m = c.args.self.now in
    let line = found-line m a c.next.new.self c.in_ok-text.field-0 c.in_ok-text.ensures.finds
    (c.in_ok-text.ensures.more a.run.some) c.in-Line.text c.in-Line.is in
    turn-failed failure o _ _ _ u _ c.from_residual-in_err-give_line-in-Line.result
    c.from_residual-in_err-give_line-in-Line.ensures.1
    (c.in_err-give_line-in-Line.ensures.turns o _ u _
    (line-given _ line
    (con-of-text 1 c.in_ok-fields-in-Line.fields c.in_ok-text-in-Line.text c.in_ok-fields-in-Line.ensures
    ∙ ap (λ s. Value.con 1 (Value.literal (literal.Text s) ▹ Values.none))
    (c.in_ok-text-in-Line.ensures ∙ c.as_str.ensures))))

pub returns-in_ok-give_line-in-Line-clause-turns : goal.returns-in_ok-give_line-in-Line-clause-turns
returns-in_ok-give_line-in-Line-clause-turns g c = λ o u a.
    let m = c.args.self.now in
    let line = found-line m a c.next.new.self c.in_ok-text.field-0 c.in_ok-text.ensures.finds
    (c.in_ok-text.ensures.more a.run.some) c.in-Line.text c.in-Line.is in
    c.in_ok-give_line-in-Line.ensures.turns o _ u _
    (line-given _ line
    (con-of-text 1 c.in_ok-fields-in-Line.fields c.in_ok-text-in-Line.text c.in_ok-fields-in-Line.ensures
    ∙ ap (λ s. Value.con 1 (Value.literal (literal.Text s) ▹ Values.none))
    (c.in_ok-text-in-Line.ensures ∙ c.as_str.ensures)))

pub returns-in_err-give_line-in-End-clause-turns : goal.returns-in_err-give_line-in-End-clause-turns
returns-in_err-give_line-in-End-clause-turns g c = λ o u a.
    let m = c.args.self.now in
    let line = found-end m a c.next.new.self c.in_ok-text.field-0 c.in_ok-text.ensures.finds
    (c.in_ok-text.ensures.more a.run.some) c.in-End.is in
    turn-failed failure o _ _ _ u _ c.from_residual-in_err-give_line-in-End.result
    c.from_residual-in_err-give_line-in-End.ensures.1
    (c.in_err-give_line-in-End.ensures.turns o _ u _ (line-given _ line (con-of-none 0 _ refl)))

pub returns-in_ok-give_line-in-End-clause-turns : goal.returns-in_ok-give_line-in-End-clause-turns
returns-in_ok-give_line-in-End-clause-turns g c = λ o u a.
    let m = c.args.self.now in
    let line = found-end m a c.next.new.self c.in_ok-text.field-0 c.in_ok-text.ensures.finds
    (c.in_ok-text.ensures.more a.run.some) c.in-End.is in
    c.in_ok-give_line-in-End.ensures.turns o _ u _ (line-given _ line (con-of-none 0 _ refl))

pub trap-requires : goal.trap-requires
trap-requires g c =
    let (o, u, a) = c.requires in (
      o,
      u,
      found-bad c.args.self.now a c.next.new.self c.in_ok-text.field-0 c.in_ok-text.ensures.finds
          (c.in_ok-text.ensures.more a.run.some) c.in-Bad.is,
    )

pub returns-in_err-trap-in-Bad-clause-turns : goal.returns-in_err-trap-in-Bad-clause-turns
returns-in_err-trap-in-Bad-clause-turns g c = λ o u a.
    let m = c.args.self.now in
    let bad = found-bad m a c.next.new.self c.in_ok-text.field-0 c.in_ok-text.ensures.finds
    (c.in_ok-text.ensures.more a.run.some) c.in-Bad.is in
    turn-failed failure o _ _ _ u _ c.from_residual-in_err-trap-in-Bad.result
    c.from_residual-in_err-trap-in-Bad.ensures.1
    (c.in_err-trap-in-Bad.ensures.comes o u bad)

pub returns-in_ok-trap-in-Bad-clause-turns : goal.returns-in_ok-trap-in-Bad-clause-turns
returns-in_ok-trap-in-Bad-clause-turns g c = λ o u a.
    let m = c.args.self.now in
    let bad = found-bad m a c.next.new.self c.in_ok-text.field-0 c.in_ok-text.ensures.finds
    (c.in_ok-text.ensures.more a.run.some) c.in-Bad.is in
    c.in_ok-trap-in-Bad.ensures.comes o u bad
