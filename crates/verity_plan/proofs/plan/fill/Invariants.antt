use Rattle.std.proofs.Common.{◌≡◌, ℕ, ◌*◌, ◌-◌, ◌/◌, ◌<◌, ◌≤◌, length, drop}
use Rattle.verity_pending.specs.Slots.{slots, child_at, FillsSlots}
use Rattle.verity_plan.proofs.plan.fill.Given as goal

abbrev pub invariant-loop-at : goal.invariant-loop-at
invariant-loop-at g l = record {
  least : l.start ≤ l.at;
  most : l.at ≤ length l.children.items;
  passed : (c : ℕ) → l.start ≤ c → c < l.at → (child_at l.children.items c).number / l.per_block ≡ l.index;
  slots : FillsSlots l.per_block l.children.items l.start l.at
      (slots l.size l.per_block l.initial.block) (slots l.size l.per_block l.block);
  tail : drop (l.per_block * l.size) l.block ≡ drop (l.per_block * l.size) l.initial.block;
}

abbrev pub decreases-loop-at : goal.decreases-loop-at
decreases-loop-at g l = length l.children.items - l.at
