use Rattle.std.proofs.Common.{◌≡◌, ◌-◌, ◌≤◌, ltb, true, false, length}
use Rattle.std.specs.List.{AllWithin}
use Rattle.std.specs.List.Sorted.{IsNonDecreasingBy}
use Rattle.verity_pending.proofs.children.Children.first_from.Given as goal

abbrev pub invariant-loop-least : goal.invariant-loop-least
invariant-loop-least g l = record {
  order : l.least ≤ l.most;
  most : l.most ≤ length l.self.items;
  low : IsNonDecreasingBy (λ child. child.number) l.self.items
      → AllWithin (λ child. ltb child.number l.number ≡ true) l.self.items 0 l.least;
  high : IsNonDecreasingBy (λ child. child.number) l.self.items
      → AllWithin (λ child. ltb child.number l.number ≡ false) l.self.items l.most
      (length l.self.items);
}

abbrev pub decreases-loop-least : goal.decreases-loop-least
decreases-loop-least g l = l.most - l.least
