use Rattle.std.proofs.Common.{List, ℕ, [], take, refl, sym, subst, arith, All, length-set}
use Rattle.std.proofs.lemmas.List.{take_more_set}
use Rattle.std.proofs.lemmas.List.Elements.{All-nil, All-push}
use Rattle.nbd_session.specs.Export.{IsWithin}
use Rattle.nbd_session.proofs.Announcing.{within_of, noted_on, noted_all}
use Rattle.nbd_session.proofs.ahead.note.Goals as goal

pub loop-noted-init : goal.loop-noted-init
loop-noted-init c = record {
  few = omega arith;
  place = omega arith;
  within = All-nil (IsWithin c.args.offer.now.size);
  asks = λ more a. a;
}

pub loop-noted-preserved : goal.loop-noted-preserved
loop-noted-preserved c =
    let l = c.loop-noted in
    let i = l.invariant in
    let range = c.in-Some.range in
    let size = c.args.offer.now.size in
    let few = c.loop-noted-test.true in
    let enough = c.if-waiting-place-ge-HEADER_BYTES.true in
    let is = c.in-Some.ensures in
    let P : List (ℕ × ℕ) → Type 0 = λ xs. All (IsWithin size) xs in
    record {
      few = omega (arith, few, length-set l.ranges l.noted range);
      place = omega (arith, enough);
      within = subst P (sym (take_more_set l.ranges l.noted range few))
          (All-push (IsWithin size) (take l.noted l.ranges) range i.within (within_of size _ range is));
      asks = noted_on c.args.offer.now c.args.waiting.now _ l.ranges l.noted l.place range few (omega (arith, enough)) refl is i.asks;
    }

pub returns-in_default-clause-asks : goal.returns-in_default-clause-asks
returns-in_default-clause-asks c = noted_all _ _ (c.loop-noted.invariant.asks [] tt)

pub returns-else-waiting-place-ge-HEADER_BYTES-clause-asks : goal.returns-else-waiting-place-ge-HEADER_BYTES-clause-asks
returns-else-waiting-place-ge-HEADER_BYTES-clause-asks c = noted_all _ _ (c.loop-noted.invariant.asks [] tt)

pub returns-after-loop-noted-clause-asks : goal.returns-after-loop-noted-clause-asks
returns-after-loop-noted-clause-asks c = noted_all _ _ (c.loop-noted.invariant.asks [] tt)
