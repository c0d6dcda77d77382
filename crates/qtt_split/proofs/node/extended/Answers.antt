use Rattle.std.proofs.Common.{◌≡◌, ◌++◌, rules}
use Rattle.qtt_split.proofs.Noded.{extended-is}
use Rattle.qtt_split.proofs.node.extended.Goals as goal

pub returns : goal.returns
returns c =
    let a = c.in_ok-extended.extended.items in
    let f = c.in_ok-fields.fields.items in
    let g = c.in_ok-again.again.items in
    let all : c.append-2.new.self.items ≡ (a ++ f) ++ g = search rules in
    extended-is c.append-2.new.self.items a f g c.args.context.now c.args.fields.now c.args.again.now all
    c.in_ok-extended.ensures c.in_ok-fields.ensures c.in_ok-again.ensures
