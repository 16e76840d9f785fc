-- FILE and what stands at another path are told apart over the host of a system of paths.
use Rattle.std.proofs.Common.{◌≡◌, ⊎_elim, inl, inr, List, ℕ, Result, Ok, Err, IfErr, sym, subst, ◌∙◌}
use Rattle.cli_line_file.specs.Apart.{AreOne, IsBeside, IsNotApart, next_of}
use Rattle.cli_faults.specs.declared.failure.Failure.{Failure}
use Rattle.cli_faults.specs.declared.failure.Failure.TheVariants as failure
use Rattle.cli_faults.specs.declared.failure.Word.TheVariants as word
use Rattle.os_host.specs.declared.host.Host.{Host}
use Rattle.os_host.specs.declared.opening.Opened.{Opened}
use Rattle.os_host.specs.declared.paths.Paths.{Ghosts}
use Rattle.os_files.specs.declared.system.System as system
use Rattle.cli_edit.specs.LineFiles.{IsLineFileAt, IsOneAt}

module _ {P D J : Type 0} (paths : Ghosts P) (host : system.Ghosts (Host P) Opened D J) (on : Host P) (p : P)
    (opens : (path : List ℕ) (o : Opened) → host.opens on path o → paths.opens p path o)
    (leads : (path led : List ℕ) → host.leads on path led → paths.leads p path led)
    (lacks : (path : List ℕ) → host.lacks on path → paths.lacks p path) (own : (o : Opened) → host.identity o ≡ o.identity) where
  one_at : (path other : List ℕ) → AreOne host on path other → IsOneAt paths p path other
  one_at path other is = ⊎_elim
      (λ both. inl (both.0, both.1, opens path both.0 both.2, opens other both.1 both.3, sym (own both.0) ∙ (both.4 ∙ own both.1)))
      (λ none. inr (⊎_elim (λ here. inl (lacks path here)) (λ there. inr (lacks other there)) none)) is

  beside_at : (path other : List ℕ) → IsBeside host on path other → IsLineFileAt paths p path other
  beside_at path other (led, leads_there, is) = (
    led,
    leads path led leads_there,
    ⊎_elim (λ one. inl (one_at led other one)) (λ one. inr (one_at (next_of led) other one)) is,
  )

-- where FILE is blamed, it or FILE.next is what stands at the path
pub not_apart : {P D J T : Type 0} (paths : Ghosts P) (host : system.Ghosts (Host P) Opened D J) (on : Host P) (p : P)
    (path other : List ℕ) (done : Result T Failure) → IfErr done (IsNotApart host on path other)
    → ((path : List ℕ) (o : Opened) → host.opens on path o → paths.opens p path o)
    → ((path led : List ℕ) → host.leads on path led → paths.leads p path led)
    → ((path : List ℕ) → host.lacks on path → paths.lacks p path) → ((o : Opened) → host.identity o ≡ o.identity)
    → IfErr done (λ e. e ≡ failure.Word word.TableFile → IsLineFileAt paths p path other)
not_apart paths host on p path other (Ok value) is opens leads lacks own = tt
not_apart paths host on p path other (Err e) is opens leads lacks own =
    λ same. let Q : Failure → Type 0 = λ (x : Failure). IsNotApart host on path other x in
    beside_at paths host on p opens leads lacks own path other (subst Q same is)
