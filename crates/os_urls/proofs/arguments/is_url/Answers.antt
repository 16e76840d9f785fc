use Rattle.std.proofs.Common.{◌≡◌, ◌∷◌, ◌++◌, subst, inl, inr}
use Rattle.remote_url.specs.Grammar.{HasScheme, Names}
use Rattle.remote_url.specs.declared.source.Source.{Source}
use Rattle.remote_url.specs.declared.source.Source.TheVariants.{Http, Nbd, NbdUnix}
use Rattle.os_urls.proofs.Schemes.{of_http, of_nbd, of_socket}
use Rattle.os_urls.proofs.arguments.is_url.Goals as goal

pub returns-in-Ok-Http-clause-is : goal.returns-in-Ok-Http-clause-is
returns-in-Ok-Http-clause-is c =
    λ _. of_http c.args.text.now c.in-Ok-Http.field-0-0 c.in-Ok-Http.field-0-1
    (subst (λ (s : Source). Names c.args.text.now s) c.in-Ok-Http.field-0-is c.in-Ok-Http.ensures.named)

pub returns-in-Ok-Nbd-clause-is : goal.returns-in-Ok-Nbd-clause-is
returns-in-Ok-Nbd-clause-is c =
    λ _. of_nbd c.args.text.now c.in-Ok-Nbd.field-0-0 c.in-Ok-Nbd.field-0-1
    (subst (λ (s : Source). Names c.args.text.now s) c.in-Ok-Nbd.field-0-is c.in-Ok-Nbd.ensures.named)

pub returns-in-Ok-NbdUnix-clause-is : goal.returns-in-Ok-NbdUnix-clause-is
returns-in-Ok-NbdUnix-clause-is c =
    λ _. of_socket c.args.text.now c.in-Ok-NbdUnix.field-0-0 c.in-Ok-NbdUnix.field-0-1
    (subst (λ (s : Source). Names c.args.text.now s) c.in-Ok-NbdUnix.field-0-is c.in-Ok-NbdUnix.ensures.named)
