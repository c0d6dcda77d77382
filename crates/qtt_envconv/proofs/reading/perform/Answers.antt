use Rattle.std.proofs.Common.{◌≡◌, List, length, ap, sym, subst, arith}
use Rattle.std.proofs.lemmas.Result.{on_ok_weaker}
use Rattle.qtt_term.specs.Term.{Term}
use Rattle.qtt_term.specs.View.{terms}
use Rattle.qtt_envconv.specs.Tasks.{finished, AreDoable}
use Rattle.qtt_envconv.proofs.Finishing.{read-makes, read-doable, read-less, done-assembly}
use Rattle.qtt_envconv.proofs.reading.perform.Goals as goal

pub returns-in_ok-push-in-Form-clause-makes : goal.returns-in_ok-push-in-Form-clause-makes
returns-in_ok-push-in-Form-clause-makes c =
    let count : c.len.result ≡ length c.in-Form.parts.items = omega (arith, c.len.ensures, c.in-Form.parts.ok.0) in
    let means = rw c.in-Form.is at c.in_ok-index-in-Read.ensures.means in
    rw c.in-Read.is (on_ok_weaker c.push_reads.result
    (λ e. read-makes c.args.tasks.now.items c.push-in-Form.new.self.items c.push_reads.new.tasks.items
    c.in-Form.shape c.len.result c.in-Read.node c.in-Form.parts.items (terms c.args.built.now.items)
    c.in_ok-push-in-Form.ensures.items e count means) c.push_reads.ensures)

pub returns-in_ok-push-in-Form-clause-doable : goal.returns-in_ok-push-in-Form-clause-doable
returns-in_ok-push-in-Form-clause-doable c =
    let count : c.len.result ≡ length c.in-Form.parts.items = omega (arith, c.len.ensures, c.in-Form.parts.ok.0) in
    let means = rw c.in-Form.is at c.in_ok-index-in-Read.ensures.means in
    let whole = rw c.in-Form.is at c.in_ok-index-in-Read.ensures.whole in
    rw c.in-Read.is (λ d. on_ok_weaker c.push_reads.result
    (λ e. read-doable c.args.tasks.now.items c.push-in-Form.new.self.items c.push_reads.new.tasks.items
    c.in-Form.shape c.len.result c.in-Read.node c.in-Form.parts.items (terms c.args.built.now.items)
    c.in_ok-push-in-Form.ensures.items e count means whole d) c.push_reads.ensures)

pub returns-in_ok-push-in-Form-clause-less : goal.returns-in_ok-push-in-Form-clause-less
returns-in_ok-push-in-Form-clause-less c =
    let means = rw c.in-Form.is at c.in_ok-index-in-Read.ensures.means in
    rw c.in-Read.is (on_ok_weaker c.push_reads.result
    (λ e. read-less c.args.tasks.now.items c.push-in-Form.new.self.items c.push_reads.new.tasks.items
    c.in-Form.shape c.len.result c.in-Read.node c.in-Form.parts.items
    c.in_ok-push-in-Form.ensures.items e means) c.push_reads.ensures)

pub returns-in_ok-push-in-Assemble-clause-makes : goal.returns-in_ok-push-in-Assemble-clause-makes
returns-in_ok-push-in-Assemble-clause-makes c =
    let count : c.len-in-Assemble.result ≡ length c.args.built.now.items =
    omega (arith, c.len-in-Assemble.ensures, c.args.built.now.ok.0) in
    let made = done-assembly c.in-Assemble.shape c.in-Assemble.count c.len-in-Assemble.result c.args.built.now.items
    c.split_off.new.self.items c.in_ok-parts-in-Assemble.parts.items c.push-in-Assemble.new.self.items
    c.in_ok-assembled-in-Assemble.field-0 count c.in_ok-parts-in-Assemble.ensures.items
    c.in_ok-parts-in-Assemble.ensures.tail c.in_ok-assembled-in-Assemble.ensures
    c.in_ok-push-in-Assemble.ensures.items in
    rw c.in-Assemble.is (ap (finished c.args.tasks.now.items) made)

pub returns-in_ok-push-in-Assemble-clause-doable : goal.returns-in_ok-push-in-Assemble-clause-doable
returns-in_ok-push-in-Assemble-clause-doable c =
    let count : c.len-in-Assemble.result ≡ length c.args.built.now.items =
    omega (arith, c.len-in-Assemble.ensures, c.args.built.now.ok.0) in
    let made = done-assembly c.in-Assemble.shape c.in-Assemble.count c.len-in-Assemble.result c.args.built.now.items
    c.split_off.new.self.items c.in_ok-parts-in-Assemble.parts.items c.push-in-Assemble.new.self.items
    c.in_ok-assembled-in-Assemble.field-0 count c.in_ok-parts-in-Assemble.ensures.items
    c.in_ok-parts-in-Assemble.ensures.tail c.in_ok-assembled-in-Assemble.ensures
    c.in_ok-push-in-Assemble.ensures.items in
    let P : List Term → Type 0 = AreDoable c.args.tasks.now.items in
    rw c.in-Assemble.is (λ d. subst P (sym made) d)
