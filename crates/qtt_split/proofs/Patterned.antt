-- The patterns that lead to what was seen.
use Rattle.std.proofs.Common.{◌≡◌, ◌∙◌, List, map, Some, Vec, Global, refl, sym, ap}
use Rattle.qtt_base.specs.declared.place.Span.{Span}
use Rattle.qtt_syntax.specs.declared.expr.Mark.TheVariants.{Written}
use Rattle.qtt_syntax.specs.declared.expr.Named.{Named}
use Rattle.qtt_syntax.specs.declared.expr.Target.TheVariants as target
use Rattle.qtt_syntax.specs.declared.pattern.Pattern.{Pattern}
use Rattle.qtt_syntax.specs.declared.pattern.Pattern.TheVariants as pattern
use Rattle.qtt_syntax.specs.Tree.{Shape, shapes}
use Rattle.qtt_syntax.specs.Tree.Shape.{constructor}
use Rattle.qtt_syntax.specs.Tree.Shapes.{shape_and}
use Rattle.qtt_syntax.specs.View.{shape_of}
use Rattle.qtt_syntax.proofs.Rows.{constructor_view}
use Rattle.qtt_term.specs.declared.term.ConId.{ConId}
use Rattle.qtt_term.specs.Entries.{Entries}
use Rattle.qtt_term.specs.Items.{ConstructorEntry}
use Rattle.qtt_split.specs.Constructors.{constructor_entry, bare}
use Rattle.qtt_split.specs.Seen.{Seen, Sights, of_entry, pattern_of, patterns_of, pattern_list}

patterns-listed : (K : Entries) (s : Span) (ss : Sights) → patterns_of K s ss ≡ shapes (pattern_list K s ss)
patterns-listed K s Sights.no_sight = refl
patterns-listed K s (Sights.sight_and x ss) = ap (shape_and (pattern_of K s x)) (patterns-listed K s ss)

pub pattern-made : (K : Entries) (s : Span) (c : ConId) (ss : Sights) (e : ConstructorEntry) (h : Named)
    (args : Vec Pattern Global) → Some e ≡ constructor_entry K c →
    h ≡ record { path = bare e.name; target = target.Global e.id; span = s } →
    map shape_of args.items ≡ pattern_list K s ss →
    shape_of (pattern.Constructor Written h args s) ≡ pattern_of K s (Seen.made_of c ss)
pattern-made K s c ss e h args there named listed =
    constructor_view Written h args s ∙
    ap (λ (xs : List Shape). constructor Written h (shapes xs) s) listed ∙
    ap (λ g. constructor Written g (shapes (pattern_list K s ss)) s) named ∙
    ap (of_entry s (Some e)) (sym (patterns-listed K s ss)) ∙
    ap (λ o. of_entry s o (patterns_of K s ss)) there
