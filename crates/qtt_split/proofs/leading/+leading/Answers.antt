use Rattle.std.proofs.Common.{◌≡◌, ◌∙◌, Some, ap, sym, rules}
use Rattle.qtt_term.specs.Entries.{entries}
use Rattle.qtt_term.specs.Items as items
use Rattle.qtt_split.specs.Constructors.{constructor_entry}
use Rattle.qtt_split.specs.declared.sights.Seen as code_seen
use Rattle.qtt_split.specs.Seen.{Seen, pattern_of, pattern_list}
use Rattle.qtt_split.specs.Sights.{seen_of, sights_of}
use Rattle.qtt_split.proofs.Patterned.{pattern-made}
use Rattle.qtt_split.proofs.leading.+leading.Goals as goal

pub pattern_of-returns-in-Some : goal.pattern_of-returns-in-Some
pattern_of-returns-in-Some t c =
    let K = entries c.args.globals.now in
    let s = c.args.place in
    let con = c.in-MadeOf.con in
    let ss = sights_of c.in-MadeOf.fields.items in
    let seen : seen_of c.args.seen.now ≡ Seen.made_of con ss = search (rules, code_seen.the_lemmas) in
    let there : Some (items.constructor_entry c.in-Some.constructor.now) ≡ constructor_entry K con =
    c.in-Some.ensures.entry in
    pattern-made K s con ss (items.constructor_entry c.in-Some.constructor.now) c.in_ok-named.field-0
    c.in_ok-pattern_list.field-0 there c.in_ok-named.ensures
    (c.in_ok-pattern_list.ensures ∙ ap (λ xs. pattern_list K s (sights_of xs)) c.deref.ensures.value) ∙
    ap (pattern_of K s) (sym seen)
