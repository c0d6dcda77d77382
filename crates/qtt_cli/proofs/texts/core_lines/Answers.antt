use Rattle.std.proofs.Common.{◌≡◌, ◌+◌, ℕ, Bool, true, false, List, [], ◌∷◌, ◌++◌, Some, flat_map, filter, map, drop, refl, sym, ap, ◌∙◌}
use Rattle.std.proofs.lemmas.List.{append-nil, append_assoc}
use Rattle.qtt_term.specs.Entries.{entries}
use Rattle.qtt_term.specs.Items.{DefinitionEntry, definition_entry}
use Rattle.qtt_term.specs.Keyed.{is_of}
use Rattle.qtt_core_print.specs.Printing.{definition_text}
use Rattle.qtt_outcome.specs.Outcome.{line}
use Rattle.qtt_cli.specs.Texts.{lines_among}
use Rattle.qtt_cli.proofs.Written.{written-on, written-all, taken, taken-first}
use Rattle.qtt_cli.proofs.texts.core_lines.Goals.{then-eq+in_ok-print_definition+in_ok-extend_from_slice+in_ok-push, else-eq}
use Rattle.qtt_cli.proofs.texts.core_lines.Goals as goal

pub loop-definition-preserved : goal.loop-definition-preserved
loop-definition-preserved c =
    let G = entries c.args.env.now in
    let m = c.args.module in
    let ds = c.definitions-definition-items.result.now in
    let at = c.loop-definition.definition-index in
    let d = c.definition-item.result in
    let text = λ (x : DefinitionEntry). line (definition_text G x) in
    let test = λ (x : DefinitionEntry). is_of (Some m) x.id in
    let old = c.loop-definition.text.items in
    let here = λ (t : Bool). taken t (text (definition_entry d)) in
    let so : c.eq.result ≡ test (definition_entry d) = c.eq.ensures in
    let new : c.if-eq.text.items ≡ old ++ here (test (definition_entry d)) =
    elim c.if-eq.branch [
      | then-eq+in_ok-print_definition+in_ok-extend_from_slice+in_ok-push w ↦
          let taken_so : test (definition_entry d) ≡ true = sym so ∙ w.if-eq.true in
          ap (λ v. v.items) w.text-is
          ∙ w.in_ok-push.ensures.items
          ∙ ap (λ (bytes : List ℕ). bytes ++ 10 ∷ []) (w.in_ok-extend_from_slice.ensures.items
          ∙ ap (λ (bytes : List ℕ). old ++ bytes) (w.deref.ensures.value ∙ w.in_ok-print_definition.ensures))
          ∙ append_assoc old (definition_text G (definition_entry d)) (10 ∷ [])
          ∙ ap (λ (t : Bool). old ++ here t) (sym taken_so)
      | else-eq w ↦
          let passed : test (definition_entry d) ≡ false = sym so ∙ w.if-eq.false in
          ap (λ v. v.items) w.text-is ∙ sym (append-nil old) ∙ ap (λ (t : Bool). old ++ here t) (sym passed)
    ] in
    written-on (lines_among G m) ds at d (here (test (definition_entry d)))
    (taken-first test text (definition_entry d) (map definition_entry (drop (at + 1) ds)))
    c.loop-definition-test.true c.definition-item.is old c.if-eq.text.items (lines_among G m ds) new
    c.loop-definition.invariant

pub returns : goal.returns
returns c =
    let G = entries c.args.env.now in
    let m = c.args.module in
    let ds = c.definitions-definition-items.result.now in
    written-all (lines_among G m) ds c.loop-definition.definition-index refl c.loop-definition-test.false
    c.loop-definition.text.items (lines_among G m ds) c.loop-definition.invariant
    ∙ ap (λ es. flat_map (λ x. line (definition_text G x)) (filter (λ (x : DefinitionEntry). is_of (Some m) x.id) es))
    c.definitions-definition-items.ensures.all
