-- Commands under a table line, one after the other.
use Rattle.std.proofs.Common.{◌≡◌, ◌⊎◌, ℕ, zero, suc, ◌+◌, ◌-◌, ◌<◌, ◌≤◌, false, List, [], ◌∷◌, ◌++◌, length, take, drop, get_or}
use Rattle.std.proofs.Common.{Bool, inl, inr, ⊎_elim, refl, sym, ap, ◌∙◌, subst, arith, ltb, leb}
use Rattle.std.proofs.lemmas.Bool.{cases_Bool, true≢false, cases_lt, lt-ltb, le-ltb, lt-leb, cond-true, and_left, and_right}
use Rattle.std.proofs.lemmas.List.{ext_get_or, drop-drop, take-append-le, length-append, append-nil, append_assoc, take_more}
use Rattle.std.proofs.lemmas.List.FromFn.{length-map-range_with_len, get_or-map-range_with_len}
use Rattle.std.proofs.Math.Seq.{take-append_seam}
use Rattle.verity_profile.specs.Profile.{zero_block}
use Rattle.verity_digest.specs.Tree.{root}
use Rattle.verity_store.specs.Given.{GoesOn, GaveSince}
use Rattle.verity_store.specs.Stores.{StaysStore}
use Rattle.verity_store.specs.declared.store.BlockStore as store
use Rattle.verity_store.proofs.GivenLemmas.{goes_on_same, goes_on_len, goes_on_then, since_on, since_all}
use Rattle.verity_chain.specs.Table.{Table, hashing_of, hash_place}
use Rattle.verity_chain.specs.Chain.{Given}
use Rattle.verity_chain.specs.Right.{Fits, Clash}
use Rattle.verity_edit.specs.declared.command.Command.{Command}
use Rattle.verity_edit.specs.declared.command.Command.TheVariants.{Commit}
use Rattle.verity_edit.specs.declared.command.Committed.{Committed}
use Rattle.verity_edit.specs.declared.command.Reply.{Reply}
use Rattle.verity_edit.specs.declared.command.Reply.TheVariants.{Done, Refused, Committed as CommittedReply}
use Rattle.verity_pending.specs.declared.fault.EditFault.{EditFault}
use Rattle.verity_pending.specs.declared.fault.EditFault.TheVariants as fault
use Rattle.verity_edit.specs.Draft.{Draft, block_at, edits_of, is_changed}
use Rattle.verity_edit.specs.After.{step}
use Rattle.verity_edit.specs.Edits.{Edits, unedited}
use Rattle.verity_edit.specs.Editing.{Editing, FitsStores, Stays, fresh}
use Rattle.verity_trusted.specs.Line.{LineEditing, CommitsUnder, ExplainsRefusalUnder, IsAnsweredUnder, IsLineOf, editing_of}
use Rattle.verity_edit.specs.Running.{IsMade, IsRuled}
use Rattle.verity_trusted.specs.Under.{line_given}
use Rattle.verity_promise.specs.Under.{made, made_by, committed_by, line_for, ClashesOnTheWay, IsChainUnder}
use Rattle.verity_promise.specs.OnTheWay.{IsAt, AreAnsweredUnder}

-- a draft without edits
same_edits : (image w w' : List (List ℕ)) (f g : ℕ → Bool) → w ≡ w' → ((n : ℕ) → f n ≡ g n)
    → ◌≡◌ {A = Edits} (record { committed = image; working = w; changed = f }) (record { committed = image; working = w'; changed = g })
same_edits image w w' f g p q = λ i. record { committed = image; working = p i; changed = λ n. q n i }

edits_fresh : (image : List (List ℕ)) (size n : ℕ) → length image ≡ n → edits_of image (fresh size n) ≡ unedited image
edits_fresh image size n len =
    let d : Draft = fresh size n in
    let long = length-map-range_with_len (block_at image d) 0 n in
    same_edits image (edits_of image d).working image (is_changed d) (λ _. false)
    (ext_get_or [] (edits_of image d).working image (long ∙ sym len)
    (λ i below.
    let inside : i < n = omega (arith, long) in
    get_or-map-range_with_len (block_at image d) 0 n i i [] inside (omega arith)
    ∙ cond-true (ltb i n) (get_or image i []) (zero_block size) (lt-ltb i n inside)))
    (λ m. ⊎_elim (λ low. and_left (leb n m) (ltb m n) (lt-leb n m low)) (λ high. and_right (leb n m) (ltb m n) (le-ltb m n high))
    (cases_lt m n))

-- a clash among more blocks
clash_grows : (t : Table) (image : List (List ℕ)) (given more : Given) → ((r i : ℕ) (y : List ℕ) → given r i y → more r i y)
    → Clash t given image → Clash t more image
clash_grows t image given more grows clash =
    let c = clash.2 in (
      clash.0,
      clash.1,
      record {
        row = c.row;
        index = c.index;
        y = c.y;
        gave = grows clash.0 clash.1 c.y c.gave;
        differs = c.differs;
        same_length = c.same_length;
        same_digest = c.same_digest;
      },
    )

-- what was given since a mark was given since an earlier one
since_back : (xs : List (ℕ × List ℕ)) (mark later n : ℕ) (block : List ℕ) → mark ≤ later → GaveSince xs later n block
    → GaveSince xs mark n block
since_back xs mark later n block low gave =
    let k : ℕ = later - mark in
    let sum : mark + k ≡ later = omega (arith, low) in
    let is : drop k (drop mark xs) ≡ drop later xs = drop-drop k mark xs ∙ ap (λ m. drop m xs) sum in
    since_all (drop mark xs) k n block (subst (λ rows. GaveSince rows 0 n block) (sym is) gave)

gave_later : {H : Type 0} (hash : store.Ghosts H) (t : Table) (mark : ℕ) (h h' : H) → GoesOn (hash.given h) (hash.given h')
    → (r i : ℕ) (y : List ℕ) → line_given hash t mark h r i y → line_given hash t mark h' r i y
gave_later hash t mark h h' on zero i y gave = gave
gave_later hash t mark h h' on (suc l) i y gave = since_on (hash.given h) (hash.given h') on mark (hash_place t l i) y gave

gave_earlier : {H : Type 0} (hash : store.Ghosts H) (t : Table) (mark later : ℕ) (h : H) → mark ≤ later
    → (r i : ℕ) (y : List ℕ) → line_given hash t later h r i y → line_given hash t mark h r i y
gave_earlier hash t mark later h low zero i y gave = gave
gave_earlier hash t mark later h low (suc l) i y gave = since_back (hash.given h) mark later (hash_place t l i) y low gave

-- a clash on the way stays one
pub clash_on : {H A : Type 0} (hash : store.Ghosts H) (t : Table) (mark : ℕ) (h h' : H) (commands : List (Command A))
    (added : List Reply) (reply : Reply) (image : List (List ℕ)) → GoesOn (hash.given h) (hash.given h')
    → ClashesOnTheWay hash t mark h commands added image → ClashesOnTheWay hash t mark h' commands (added ++ reply ∷ []) image
clash_on hash t mark h h' commands added reply image on c =
    let low : c.n ≤ length added = omega (arith, c.within) in
    record {
      n = c.n;
      within = omega (arith, c.within, length-append added (reply ∷ []));
      way = c.way;
      is = c.is ∙ ap (λ replies. committed_by t (take c.n commands) replies image) (sym (take-append-le c.n added (reply ∷ []) low));
      clash = clash_grows (line_for t c.way) c.way (line_given hash (line_for t c.way) mark h) (line_given hash (line_for t c.way) mark h')
          (gave_later hash (line_for t c.way) mark h h' on) c.clash;
    }

module _ {D H A : Type 0} (on_data : store.Ghosts D) (on_hash : store.Ghosts H) (t : Table) (command : Command A)
    (old new : LineEditing D H) where
  ruled_keeps : (f : EditFault) → IsRuled command (editing_of old) (editing_of new) f
      → (old.broken ≡ false) × (new.draft ≡ old.draft)
  ruled_keeps f why = (why.sound, ap (λ (e : Editing D H). e.draft) why.same)

  -- a refused command leaves what is pending
  refused_keeps : (f : EditFault) → ExplainsRefusalUnder on_data on_hash command old new f → new.broken ≡ false
      → (old.broken ≡ false) × (new.draft ≡ old.draft)
  refused_keeps fault.Broken why sound =
      absurd (true≢false (sym why.0 ∙ sym (ap (λ (e : LineEditing D H). e.broken) why.1) ∙ sound))
  refused_keeps fault.NoMemory why sound = (why.sound, why.unchanged.draft)
  refused_keeps (fault.Store which) why sound = (why.sound, (why.unchanged sound).draft)
  refused_keeps (fault.Untrusted level index) why sound = (why.sound, why.unchanged.draft)
  refused_keeps fault.OutOfRange why sound = ruled_keeps fault.OutOfRange why
  refused_keeps fault.WrongLength why sound = ruled_keeps fault.WrongLength why
  refused_keeps fault.TooSmall why sound = ruled_keeps fault.TooSmall why
  refused_keeps fault.TooLarge why sound = ruled_keeps fault.TooLarge why
  refused_keeps (fault.Mismatch level index) why sound = ruled_keeps (fault.Mismatch level index) why
  refused_keeps (fault.Superblock f) why sound = ruled_keeps (fault.Superblock f) why
  refused_keeps fault.DataLength why sound = ruled_keeps fault.DataLength why
  refused_keeps (fault.StoreSize which) why sound = ruled_keeps (fault.StoreSize which) why
  refused_keeps fault.Offset why sound = ruled_keeps fault.Offset why
  refused_keeps fault.Line why sound = ruled_keeps fault.Line why

  module _ (line : IsLineOf old.table old.volume) (fits : old.broken ≡ false → FitsStores on_data on_hash (editing_of old))
      (now : Edits) (at : IsAt t now old) where
    -- an edit
    edited_at : IsMade command (editing_of old) (editing_of new) → new.table ≡ old.table → IsAt t (step t.data_block_size command now) new
    edited_at made same =
        let f = fits made.sound in
        let len : length now.committed ≡ old.draft.committed = at.fits.blocks ∙ line.data_blocks ∙ f.blocks in
        let size : old.draft.size ≡ t.data_block_size =
        sym f.block_size ∙ sym line.data_block_size ∙ ap (λ (x : Table). x.data_block_size) at.line in
        let next : Edits = step t.data_block_size command now in
        let is : edits_of now.committed new.draft ≡ next = made.edits now.committed len
        ∙ ap (λ n. step n command (edits_of now.committed old.draft)) size
        ∙ ap (λ e. step t.data_block_size command e) (at.edits made.sound) in
        let stays : now.committed ≡ next.committed = ap (λ (e : Edits). e.committed) is in
        record {
          line = same ∙ at.line ∙ ap (λ image. line_for t image) stays;
          fits = subst (λ x. Fits x next.committed) (sym same) (subst (λ image. Fits old.table image) stays at.fits);
          edits = λ sound. ap (λ image. edits_of image new.draft) (sym stays) ∙ is;
        }

    -- a commit
    abbrev pub Here : Type 0
    Here = Clash (line_for t now.committed)
        (line_given on_hash (line_for t now.committed) (length (on_hash.given old.hash_store)) new.hash_store) now.committed

    committed_at : (c : Committed) → command ≡ Commit → CommitsUnder on_data on_hash old new c
        → IsAt t (step t.data_block_size command now) new ⊎ Here
    committed_at c is commits =
        let image : List (List ℕ) = now.committed in
        let w : List (List ℕ) = (edits_of image old.draft).working in
        let to : w ≡ now.working = ap (λ (e : Edits). e.working) (at.edits commits.whole) in
        ⊎_elim
        (λ next.
        let count : old.draft.working ≡ length w = sym (ap (λ (x : Table). x.data_blocks) commits.line) ∙ sym next.fits.blocks in
        let top : c.root ≡ root (hashing_of t) w = next.root ∙ ap (λ (x : Table). root (hashing_of x) w) at.line in
        let at_line : new.table ≡ line_for t w = commits.line
        ∙ ap (λ (x : Table). record x { data_blocks = old.draft.working; root = c.root }) at.line
        ∙ (λ i. record t { data_blocks = count i; root = top i }) in
        let there : IsAt t (unedited w) new = record {
          line = at_line;
          fits = next.fits;
          edits = λ sound. ap (λ d. edits_of w d) commits.draft ∙ edits_fresh w old.draft.size old.draft.working (sym count);
        } in
        inl (subst (λ (x : Command A). IsAt t (step t.data_block_size x now) new) (sym is)
        (subst (λ blocks. IsAt t (unedited blocks) new) to there)))
        (λ clash. inr (subst (λ (x : Table). Clash x (line_given on_hash x (length (on_hash.given old.hash_store)) new.hash_store) image)
        at.line clash))
        (commits.right image at.fits)

    -- one command
    pub at_next : (reply : Reply) → IsAnsweredUnder on_data on_hash command old new reply
        → IsAt t (made_by t.data_block_size command reply now) new ⊎ Here
    at_next Done one =
        inl (edited_at one.explained (ap (λ (e : LineEditing D H). e.table) (one.only one.explained.edit)))
    at_next (CommittedReply c) one = committed_at c one.explained.0 one.explained.1
    at_next (Refused f) one = inl (record {
      line = one.line ∙ at.line;
      fits = subst (λ x. Fits x now.committed) (sym one.line) at.fits;
      edits = λ sound. let k = refused_keeps f one.explained sound in ap (λ d. edits_of now.committed d) k.1 ∙ at.edits k.0;
    })

-- what every call leaves, and so each run of calls
stays_store : {S : Type 0} (facts : store.Ghosts S) (a b c : S) → StaysStore facts a b → StaysStore facts b c → StaysStore facts a c
stays_store facts a b c ab bc = record {
  tells = bc.tells ∙ ab.tells;
  size = bc.size ∙ ab.size;
  fixed = bc.fixed ∙ ab.fixed;
  gave = goes_on_then (facts.given a) (facts.given b) (facts.given c) ab.gave bc.gave;
  failures = omega (arith, ab.failures, bc.failures);
  changes = omega (arith, ab.changes, bc.changes);
  room = omega (arith, ab.room, bc.room);
}

stays_same : {S : Type 0} (facts : store.Ghosts S) (a : S) → StaysStore facts a a
stays_same facts a = record {
  tells = refl;
  size = refl;
  fixed = refl;
  gave = goes_on_same (facts.given a);
  failures = omega arith;
  changes = omega arith;
  room = omega arith;
}

stays_then : {D H : Type 0} (on_data : store.Ghosts D) (on_hash : store.Ghosts H) (old now new : Editing D H)
    → Stays on_data on_hash old now → Stays on_data on_hash now new → Stays on_data on_hash old new
stays_then on_data on_hash old now new a b = record {
  params = b.params ∙ a.params;
  first = b.first ∙ a.first;
  size = b.size ∙ a.size;
  data_reads = b.data_reads ∙ a.data_reads;
  data_store = stays_store on_data old.data_store now.data_store new.data_store a.data_store b.data_store;
  hash_store = stays_store on_hash old.hash_store now.hash_store new.hash_store a.hash_store b.hash_store;
  front = λ q below. let first = a.first in b.front q (omega (arith, first, below)) ∙ a.front q below;
  broken = λ whole broken. let before = a.data_store.changes in let after = b.data_store.changes in
      ⊎_elim (λ early. let rose = a.broken whole early in omega arith) (λ sound. let rose = b.broken sound broken in omega arith)
      (cases_Bool now.broken);
}

-- one command more
chain_more : {D H A : Type 0} (on_data : store.Ghosts D) (on_hash : store.Ghosts H) (commands : List (Command A))
    (replies : List Reply) (command : Command A) (reply : Reply) (old now new : LineEditing D H)
    → IsChainUnder on_data on_hash commands replies old now → IsAnsweredUnder on_data on_hash command now new reply
    → IsChainUnder on_data on_hash (commands ++ command ∷ []) (replies ++ reply ∷ []) old new
chain_more on_data on_hash [] [] command reply old now new done next =
    (new, subst (λ e. IsAnsweredUnder on_data on_hash command e new reply) done next, refl)
chain_more on_data on_hash [] (r ∷ replies) command reply old now new done next = absurd done
chain_more on_data on_hash (c ∷ commands) [] command reply old now new done next = absurd done
chain_more on_data on_hash (c ∷ commands) (r ∷ replies) command reply old now new done next =
    (done.0, done.1, chain_more on_data on_hash commands replies command reply done.0 now new done.2 next)

made_more : {D H A : Type 0} (on_data : store.Ghosts D) (on_hash : store.Ghosts H) (size : ℕ) (commands : List (Command A))
    (replies : List Reply) (command : Command A) (reply : Reply) (old now : LineEditing D H) (e : Edits)
    → IsChainUnder on_data on_hash commands replies old now
    → made size (commands ++ command ∷ []) (replies ++ reply ∷ []) e ≡ made_by size command reply (made size commands replies e)
made_more on_data on_hash size [] [] command reply old now e done = refl
made_more on_data on_hash size [] (r ∷ replies) command reply old now e done = absurd done
made_more on_data on_hash size (c ∷ commands) [] command reply old now e done = absurd done
made_more on_data on_hash size (c ∷ commands) (r ∷ replies) command reply old now e done =
    made_more on_data on_hash size commands replies command reply done.0 now (made_by size c r e) done.2

-- no command was answered
pub answered_none : {D H A : Type 0} (on_data : store.Ghosts D) (on_hash : store.Ghosts H) (commands : List (Command A))
    (e : LineEditing D H) (replies : List Reply) → AreAnsweredUnder on_data on_hash commands 0 e e replies replies
answered_none on_data on_hash commands e replies = record {
  added = [];
  replies = sym (append-nil replies);
  each = refl;
  few = omega arith;
  chain = refl;
  stays = record {
    params = refl;
    first = refl;
    size = refl;
    data_reads = refl;
    data_store = stays_same on_data e.data_store;
    hash_store = stays_same on_hash e.hash_store;
    front = λ q below. refl;
    broken = λ whole broken. absurd (true≢false (sym broken ∙ whole));
  };
  right = λ mark low image at. inl at;
}

-- one command more was answered
pub answered_more : {D H A : Type 0} (on_data : store.Ghosts D) (on_hash : store.Ghosts H) (commands : List (Command A)) (n : ℕ)
    (command : Command A) (old now new : LineEditing D H) (old_replies replies new_replies : List Reply) (reply : Reply)
    → IsLineOf now.table now.volume → (now.broken ≡ false → FitsStores on_data on_hash (editing_of now))
    → AreAnsweredUnder on_data on_hash commands n old now old_replies replies → n < length commands
    → get_or commands n command ≡ command → IsAnsweredUnder on_data on_hash command now new reply
    → new_replies ≡ replies ++ reply ∷ [] → AreAnsweredUnder on_data on_hash commands (n + 1) old new old_replies new_replies
answered_more {D = D} {H = H} {A = A} on_data on_hash commands n command old now new old_replies replies new_replies reply line fits
    before below at one is =
    let joined : take (n + 1) commands ≡ take n commands ++ command ∷ [] = take_more commands n command below
    ∙ ap (λ c. take n commands ++ c ∷ []) at in
    let t : Table = old.table in
    let size : ℕ = t.data_block_size in
    let added : List Reply = before.added in
    let more : List Reply = added ++ reply ∷ [] in
    let long : length more ≡ n + 1 = length-append added (reply ∷ []) ∙ ap (λ m. m + 1) before.each in
    record {
      added = more;
      replies = is ∙ ap (λ rs. rs ++ reply ∷ []) before.replies ∙ append_assoc old_replies added (reply ∷ []);
      each = long;
      few = omega (arith, below);
      chain = subst (λ (cs : List (Command A)). IsChainUnder on_data on_hash cs more old new) (sym joined)
          (chain_more on_data on_hash (take n commands) added command reply old now new before.chain one);
      stays = stays_then on_data on_hash (editing_of old) (editing_of now) (editing_of new) before.stays one.stays;
      right = λ mark low image at_old.
          let edits : Edits = made size (take n commands) added (unedited image) in
          let next : made size (take (n + 1) commands) more (unedited image) ≡ made_by size command reply edits =
          ap (λ (cs : List (Command A)). made size cs more (unedited image)) joined
          ∙ made_more on_data on_hash size (take n commands) added command reply old now (unedited image) before.chain in
          let way : List (List ℕ) = edits.committed in
          let taken : take n more ≡ added = ap (λ m. take m more) (sym before.each) ∙ take-append_seam added (reply ∷ []) in
          let later : mark ≤ length (on_hash.given now.hash_store) =
          omega (arith, low, goes_on_len (on_hash.given old.hash_store) (on_hash.given now.hash_store) before.stays.hash_store.gave) in
          ⊎_elim
          (λ at_now. ⊎_elim
          (λ at_new. inl (subst (λ e. IsAt t e new) (sym next) at_new))
          (λ clash. inr (record {
            n = n;
            within = omega (arith, long);
            way = way;
            is = ap (λ rs. committed_by t (take n commands) rs image) (sym taken);
            clash = clash_grows (line_for t way) way
                (line_given on_hash (line_for t way) (length (on_hash.given now.hash_store)) new.hash_store)
                (line_given on_hash (line_for t way) mark new.hash_store)
                (gave_earlier on_hash (line_for t way) mark (length (on_hash.given now.hash_store)) new.hash_store later) clash;
          }))
          (at_next on_data on_hash t command now new line fits edits at_now reply one))
          (λ clash. inr (clash_on on_hash t mark now.hash_store new.hash_store commands added reply image one.stays.hash_store.gave
          clash))
          (before.right mark low image at_old);
    }
