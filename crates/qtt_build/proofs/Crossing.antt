-- What threads share when the modules of a rank are judged, and what they give back: each of its types may cross, since
-- its parts may.
use denote.Enum.Declared.{shape}
use denote.Param.Send.{IsSend, IsSync, enum_send, sendable}
use Rattle.std.proofs.Crossing.{crosses}
use Rattle.qtt_base.specs.contracts.name.Name as Name
use Rattle.qtt_syntax.specs.contracts.expr.Expr as Expr
use Rattle.qtt_syntax.specs.contracts.pattern.Pattern as Pattern
use Rattle.qtt_syntax.specs.contracts.module.Param as Param
use Rattle.qtt_syntax.specs.contracts.module.ConDecl as ConDecl
use Rattle.qtt_syntax.specs.contracts.module.FamilyDecl as FamilyDecl
use Rattle.qtt_syntax.specs.contracts.module.SignatureDecl as SignatureDecl
use Rattle.qtt_syntax.specs.contracts.module.Clause as Clause
use Rattle.qtt_syntax.specs.contracts.module.Item as Item
use Rattle.qtt_syntax.specs.contracts.module.ModuleText as ModuleText
use Rattle.qtt_syntax.proofs.module.Import.TheSendSync as imports
use Rattle.qtt_syntax.proofs.expr.Argument.TheLaws.TheKnot as expressions
use Rattle.qtt_syntax.proofs.pattern.Pattern.TheLaws.TheKnot as patterns
use Rattle.qtt_term.specs.contracts.items.Constructor as Constructor
use Rattle.qtt_term.specs.contracts.items.Family as Family
use Rattle.qtt_term.specs.contracts.items.Definition as Definition
use Rattle.qtt_term.specs.contracts.globals.Globals as Globals
use Rattle.qtt_term.specs.contracts.convert.Question as Question
use Rattle.qtt_term.proofs.term.Term.TheLaws.TheKnot as terms
use Rattle.qtt_base.proofs.place.Span.TheSendSync as spans
use Rattle.qtt_term.proofs.rule.Rule.TheSendSync as rules
use Rattle.qtt_term.proofs.globals.Place.TheSendSync as places
use Rattle.qtt_names.specs.contracts.exports.Sig as Sig
use Rattle.qtt_names.specs.contracts.exports.Exports as Exports
use Rattle.qtt_rules.specs.contracts.detail.Detail as Detail
use Rattle.qtt_rules.specs.contracts.refusal.Refusal as Refusal
use Rattle.qtt_holes.specs.contracts.hole.Seen as Seen
use Rattle.qtt_holes.specs.contracts.hole.Hole as Hole
use Rattle.qtt_module.specs.contracts.checked.Checked as Checked
use Rattle.qtt_module.specs.contracts.errors.ModuleError as ModuleError
use Rattle.qtt_build.specs.contracts.building.Building as Building

-- ---- texts
pub name_sync : IsSync Name.the_row
name_sync = search (crosses, sendable) depth 40

pub expr_sync : IsSync Expr.the_row
expr_sync = search (expressions.sync-Expr, name_sync, crosses, sendable) depth 40

pub pattern_sync : IsSync Pattern.the_row
pattern_sync = search (patterns.sync-Pattern, expressions.sync-Expr, name_sync, crosses, sendable) depth 40

pub param_sync : IsSync Param.the_field.row
param_sync = search (name_sync, expressions.sync-Expr, crosses, sendable) depth 40

pub con_sync : IsSync ConDecl.the_field.row
con_sync = search (name_sync, expressions.sync-Expr, crosses, sendable) depth 40

pub family_sync : IsSync FamilyDecl.the_field.row
family_sync = search (param_sync, con_sync, name_sync, expressions.sync-Expr, crosses, sendable) depth 40

pub signature_sync : IsSync SignatureDecl.the_field.row
signature_sync = search (name_sync, expressions.sync-Expr, crosses, sendable) depth 40

pub clause_sync : IsSync Clause.the_field.row
clause_sync = search (pattern_sync, name_sync, expressions.sync-Expr, crosses, sendable) depth 40 fits 20000

pub item_sync : IsSync Item.the_field.row
item_sync = search (family_sync, signature_sync, clause_sync, crosses, sendable) depth 40 fits 20000

pub text_sync : IsSync ModuleText.the_row
text_sync = search (imports.the_sync, item_sync, name_sync, crosses, sendable) depth 40 fits 20000

-- ---- environments
pub name_send : IsSend Name.the_row
name_send = search (crosses, sendable) depth 40

ruleset shared = (terms.sync-Term, name_sync, crosses, sendable)

ruleset moved = (terms.send-Term, name_send, crosses, sendable)

pub constructor_sync : IsSync Constructor.the_field.row
constructor_sync = search shared depth 40 fits 20000

pub entry_sync : IsSync Family.the_field.row
entry_sync = search (constructor_sync, shared) depth 40 fits 20000

pub definition_sync : IsSync Definition.the_field.row
definition_sync = search shared depth 40 fits 20000

pub globals_sync : IsSync Globals.the_field.row
globals_sync = search (entry_sync, definition_sync, places.the_field_sync, crosses, sendable) depth 40 fits 20000

pub constructor_send : IsSend Constructor.the_field.row
constructor_send = search moved depth 40 fits 20000

pub entry_send : IsSend Family.the_field.row
entry_send = search (constructor_send, moved) depth 40 fits 20000

pub definition_send : IsSend Definition.the_field.row
definition_send = search moved depth 40 fits 20000

pub globals_send : IsSend Globals.the_field.row
globals_send = search (entry_send, definition_send, places.the_field_send, crosses, sendable) depth 40 fits 20000

-- ---- what is accepted
sig_sync : IsSync Sig.the_field.row
sig_sync = search (expressions.sync-Expr, crosses, sendable) depth 40 fits 20000

sig_send : IsSend Sig.the_field.row
sig_send = search (expressions.send-Expr, name_send, crosses, sendable) depth 40 fits 20000

exports_sync : IsSync Exports.the_field.row
exports_sync = search (sig_sync, name_sync, crosses, sendable) depth 60 fits 20000

exports_send : IsSend Exports.the_field.row
exports_send = search (sig_send, name_send, crosses, sendable) depth 60 fits 20000

seen_sync : IsSync Seen.the_field.row
seen_sync = search shared depth 40 fits 20000

seen_send : IsSend Seen.the_field.row
seen_send = search moved depth 40 fits 20000

hole_sync : IsSync Hole.the_field.row
hole_sync = search (seen_sync, shared) depth 40 fits 20000

hole_send : IsSend Hole.the_field.row
hole_send = search (seen_send, moved) depth 40 fits 20000

pub checked_sync : IsSync Checked.the_field.row
checked_sync = search (exports_sync, globals_sync, hole_sync, crosses, sendable) depth 40 fits 20000

pub checked_send : IsSend Checked.the_field.row
checked_send = search (exports_send, globals_send, hole_send, crosses, sendable) depth 40 fits 20000

pub building_sync : IsSync Building.the_row
building_sync = search (globals_sync, checked_sync, crosses, sendable) depth 40 fits 20000

-- ---- what is refused
pattern_send : IsSend Pattern.the_row
pattern_send = search (patterns.send-Pattern, expressions.send-Expr, name_send, crosses, sendable) depth 40 fits 20000

question_send : IsSend Question.the_field.row
question_send = search moved depth 40 fits 20000

ruleset parts = (question_send, pattern_send, moved)

detail_send : IsSend Detail.the_field.row
detail_send = enum_send (shape Detail.the_type) (
  tt,
  (
    (search parts depth 40, tt),
    (
      tt,
      (
        tt,
        (
          tt,
          (
            tt,
            (
              tt,
              (
                (search parts depth 40, tt),
                (
                  tt,
                  (
                    (search parts depth 40, tt),
                    (
                      (search parts depth 40, tt),
                      (
                        (search parts depth 40, tt),
                        (
                          (search parts depth 40, (search parts depth 40, tt)),
                          (
                            tt,
                            (
                              (search parts depth 40, (search parts depth 40, tt)),
                              (
                                (search parts depth 40, (search parts depth 40, (search parts depth 40, tt))),
                                (
                                  (search parts depth 40, (search parts depth 40, tt)),
                                  (
                                    (search parts depth 40, (search parts depth 40, (search parts depth 40, tt))),
                                    (
                                      (search parts depth 40, (search parts depth 40, tt)),
                                      (
                                        (search parts depth 40, (search parts depth 40, tt)),
                                        (
                                          (search parts depth 40, (search parts depth 40, tt)),
                                          (
                                            (search parts depth 40, (search parts depth 40, tt)),
                                            (
                                              (search parts depth 40, (search parts depth 40, tt)),
                                              (
                                                (search parts depth 40, (search parts depth 40, tt)),
                                                (
                                                  (
                                                    search parts depth 40,
                                                    (search parts depth 40, (search parts depth 40, tt)),
                                                  ),
                                                  (
                                                    (
                                                      search parts depth 40,
                                                      (search parts depth 40, (search parts depth 40, tt)),
                                                    ),
                                                    (
                                                      (search parts depth 40, tt),
                                                      (
                                                        (search parts depth 40, (search parts depth 40, tt)),
                                                        (
                                                          (search parts depth 40, tt),
                                                          (
                                                            tt,
                                                            (
                                                              (search parts depth 40, (search parts depth 40, tt)),
                                                              (
                                                                (search parts depth 40, (search parts depth 40, tt)),
                                                                (
                                                                  (search parts depth 40, tt),
                                                                  (
                                                                    (search parts depth 40, tt),
                                                                    (
                                                                      (
                                                                        search parts depth 40,
                                                                        (search parts depth 40, tt),
                                                                      ),
                                                                      (
                                                                        (search parts depth 40, tt),
                                                                        (
                                                                          (search parts depth 40, tt),
                                                                          ((search parts depth 40, tt), tt),
                                                                        ),
                                                                      ),
                                                                    ),
                                                                  ),
                                                                ),
                                                              ),
                                                            ),
                                                          ),
                                                        ),
                                                      ),
                                                    ),
                                                  ),
                                                ),
                                              ),
                                            ),
                                          ),
                                        ),
                                      ),
                                    ),
                                  ),
                                ),
                              ),
                            ),
                          ),
                        ),
                      ),
                    ),
                  ),
                ),
              ),
            ),
          ),
        ),
      ),
    ),
  ),
)

refusal_send : IsSend Refusal.the_field.row
refusal_send =
    search (detail_send, globals_send, name_send, spans.the_field_send, rules.the_field_send, crosses, sendable)
    depth 60 fits 50000

pub error_send : IsSend ModuleError.the_field.row
error_send = search (refusal_send, crosses, sendable) depth 40 fits 20000
