-- What the code's splits stand for.
use Rattle.std.specs.Prelude.{ℕ, length}
use Rattle.qtt_term.specs.declared.items.Constructor as code_constructor
use Rattle.qtt_term.specs.Entries.{entries, env}
use Rattle.qtt_term.specs.Items.{constructor}
use Rattle.qtt_term.specs.Signature.{ConSig, con_sig, family_at}
use Rattle.qtt_term.specs.View.{term}
use Rattle.qtt_unify.specs.View.{binders}
use Rattle.qtt_split.specs.declared.planner.Planner.{Planner}
use Rattle.qtt_split.specs.declared.site.Site as code
use Rattle.qtt_split.specs.Divisions.{division_of}
use Rattle.qtt_split.specs.Nodes.{node_of}
use Rattle.qtt_split.specs.Split.{Group, Site}

abbrev pub site_of : Group → code.Site → Site
site_of G W = record {
  group = G;
  node = node_of W.node.now;
  division = division_of (binders W.node.now.context.items) W.division.now;
  motive = term W.motive;
  reverted = W.reverted.items;
}

-- of a constructor of the family that is split, by its number
abbrev pub signature_in : {C : Type 0} → Planner C → code.Site → ℕ → code_constructor.Constructor → ConSig
signature_in K W c d =
    let f = W.division.now.family in
    con_sig f (length (family_at (env (entries K.unifier.globals.now)) f).params) c (constructor d)
