use Rattle.std.proofs.Common.{sym, ap, ◌∙◌, map, ◌++◌, ◌∷◌, []}
use Rattle.std.proofs.lemmas.List.{map-append}
use Rattle.qtt_bidi.specs.Seen.{locals}
use Rattle.qtt_term.specs.View.{term}
use Rattle.qtt_holes.specs.View.{seen as seen_of}
use Rattle.qtt_holes.proofs.Sighted.{told_of, put-unwritten, put-nothing, put-name}
use Rattle.qtt_holes.proofs.sight.put.Goals as goal

pub returns-then-not-is_written : goal.returns-then-not-is_written
returns-then-not-is_written c =
    put-unwritten c.args.name.now _ _ (sym c.is_written.ensures ∙ c.if-not-is_written.true)

pub returns-in_default : goal.returns-in_default
returns-in_default c =
    put-nothing c.args.name.now (locals c.args.scope.now).names c.args.index (map seen_of c.args.seen.items)
    (rw c.in_default.is at c.in_ok-stands.ensures)

pub returns : goal.returns
returns c =
    let n = c.args.name.now in
    let t = c.in-Some.stands in
    let A = c.in-Some.ty in
    let ys = map seen_of c.args.seen.items in
    let e = ap (map seen_of) c.in_ok-push.ensures.items in
    e ∙ map-append seen_of c.args.seen.items _
    ∙ ap (λ n. ys ++ told_of n (term t, term A) ∷ []) c.in_ok-name.ensures
    ∙ put-name n (locals c.args.scope.now).names c.args.index ys t A
    (sym c.is_written.ensures ∙ c.if-not-is_written.false) (rw c.in-Some.is at c.in_ok-stands.ensures)
