use Rattle.std.proofs.Common.{◌≡◌, ◌++◌, [], ◌∷◌, sym, subst, ap, ◌∙◌}
use Rattle.nbd_serve.specs.Sockets.{SocketState, IsTold}
use Rattle.nbd_serve.proofs.Keeping.{closed_one, leaves_one, told_same}
use Rattle.nbd_serve.proofs.partings.Partings.add.Goals as goal
use Rattle.nbd_serve.proofs.partings.Partings.add.Goals.{else-is_ok-via-then-is_ok+else-is_ok-2, else-is_ok-via-else-is_ok}

pub returns-in-Ok-clause-told : goal.returns-in-Ok-clause-told
returns-in-Ok-clause-told g c = λ begun hub n told k.
    leaves_one g.C.Connection.log g.E.Export.facts g.E.Export.later begun hub n c.args.self.now.leaving.items _ c.new.result _
    (c.in-Ok.ensures.items ∙ ap (λ z. z ++ c.new.result ∷ []) c.reserve.ensures.items)
    (subst (λ x. IsTold g.E.Export.facts g.E.Export.later hub (g.C.Connection.log x)) (sym c.new.ensures) told) k

pub returns-else-is_ok-clause-told : goal.returns-else-is_ok-clause-told
returns-else-is_ok-clause-told g c = λ begun hub n told k.
    let same : c.else-is_ok.self.leaving.items ≡ c.args.self.now.leaving.items = elim c.else-is_ok.branch [
      | else-is_ok-via-then-is_ok+else-is_ok-2 w ↦ ap (λ s. s.leaving.items) w.self-is ∙ w.reserve.ensures.items
      | else-is_ok-via-else-is_ok w ↦ ap (λ s. s.leaving.items) w.self-is
    ] in
    let is = c.into_connection.ensures ∙ ap (λ (s : SocketState g.row.C.Denot). s.connection) c.into_stream.ensures in
    closed_one g.C.Connection.log g.E.Export.facts g.E.Export.later begun hub n c.else-is_ok.self.leaving.items _ _ _ c.close.ensures
    (subst (λ x. IsTold g.E.Export.facts g.E.Export.later hub (g.C.Connection.log x)) (sym is) told)
    (told_same g.C.Connection.log g.E.Export.facts g.E.Export.later begun hub _ _ _ _ same k)
