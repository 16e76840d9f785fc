-- What is pending, client by client; and no turn.
use Rattle.std.proofs.Common.{◌≡◌, ◌<◌, ◌≤◌, ◌+◌, ◌-◌, ◌*◌, ℕ, zero, suc, List, [], ◌∷◌, length, get_or, take}
use Rattle.std.proofs.Common.{Option, refl, sym, subst, arith, append-nil}
use Rattle.nbd_session.specs.Export.{Facts}
use Rattle.nbd_hub.specs.History.{Step}
use Rattle.nbd_hub.specs.Sessions.{HubState, max_open}
use Rattle.nbd_hub.specs.After.{IsAfter}
use Rattle.nbd_relay.specs.Client.{ClientState}
use Rattle.nbd_relay.specs.Clients.{Log, AllServed, RunsOn}
use Rattle.nbd_relay.proofs.Many.{all_still}
use Rattle.nbd_serve.specs.Pending.{pending, beyond, IsWithin}

-- so many shares
abbrev shares : ℕ → ℕ → ℕ
shares zero share = 0
shares (suc n) share = share + shares n share

one_share : (n share : ℕ) → shares (suc n) share ≡ share + shares n share
one_share n share = refl

all_shares : (share : ℕ) → shares 64 share ≡ 64 * share
all_shares share = omega arith

module _ {S : Type 0} where
  pub one_more : (cs : List (ClientState × S)) (i : ℕ) (d : ClientState × S) → i < length cs →
      pending (take (suc i) cs) ≡ pending (take i cs) + length (get_or cs i d).0.unsent
  one_more [] i d l = absurd (omega arith)
  one_more (c ∷ cs) zero d l = omega arith
  one_more (c ∷ cs) (suc i) d l = omega (arith, one_more cs i d (omega arith))

  pub one_of_all : (cs : List (ClientState × S)) (i : ℕ) (d : ClientState × S) → i < length cs →
      length (get_or cs i d).0.unsent ≤ pending cs
  one_of_all [] i d l = absurd (omega arith)
  one_of_all (c ∷ cs) zero d l = omega arith
  one_of_all (c ∷ cs) (suc i) d l = omega (arith, one_of_all cs i d (omega arith))

  pub one_beyond : (share : ℕ) (cs : List (ClientState × S)) (i : ℕ) (d : ClientState × S) → i < length cs →
      beyond share (take (suc i) cs) ≡ beyond share (take i cs) + (length (get_or cs i d).0.unsent - share)
  one_beyond share [] i d l = absurd (omega arith)
  one_beyond share (c ∷ cs) zero d l = omega arith
  one_beyond share (c ∷ cs) (suc i) d l = omega (arith, one_beyond share cs i d (omega arith))

  within_shares : (share : ℕ) (cs : List (ClientState × S)) (n : ℕ) → length cs ≤ n → pending cs ≤ beyond share cs + shares n share
  within_shares share [] n l = omega arith
  within_shares share (c ∷ cs) zero l = absurd (omega arith)
  within_shares share (c ∷ cs) (suc n) l = omega (arith, within_shares share cs n (omega arith), one_share n share)

  pub keeps : (limit share : ℕ) (cs : List (ClientState × S)) → length cs ≤ max_open → IsWithin limit share cs → pending cs ≤ limit
  keeps limit share cs l w =
      let all = all_shares share in
      omega (arith, within_shares share cs 64 l, w, all)

  pub runs_none : (r g w : S → Option (List ℕ)) (facts : Facts) (hub : HubState) (h : List Step) (cs : List (ClientState × S))
      (ls : List Log) → IsAfter facts hub h → AllServed hub.offer h cs ls → RunsOn r g w facts hub h cs cs ls
  runs_none r g w facts hub h cs ls x v =
      let P : List Step → Type 0 = λ z. IsAfter facts hub z in
      let Q : List Step → Type 0 = λ z. AllServed hub.offer z cs ls in
      record {
        fed = [];
        after = subst P (sym (append-nil h)) x;
        later = ls;
        logged = all_still r g w hub.offer h cs ls v;
        served = subst Q (sym (append-nil h)) v;
      }
