-- A given list of grants, judged: each verdict is given exactly if what it says is so.
use mathlib.Core.Path.{◌≡◌, refl, sym, ap, ap₂, ◌∙◌, subst}
use mathlib.Core.Bool.{Bool, true, false, cond, ◌&&◌}
use mathlib.Core.List.{List}
use mathlib.Core.Logic.{◌⊎◌, inl, inr}
use Prim.Native.Nat.{ℕ, zero, suc, ◌+◌, ◌≤◌, ◌<◌, zero-le}
use native.Mathlib.Nat.{le_trans, le_of_eq, le_refl, eq-or-lt_of_le, suc-ne-zero}
use native.Mathlib.Decide.{dec_le}
use native.Mathlib.Omega.{arith}
use lib.Dec.{eqb, ltb}
use lib.ListN.{length}
use borrow.Author.Tests.{eqb-true, eq-eqb, ltb-true, ltb-false, lt-ltb, le-ltb, le-leb, lt-leb}
use Rattle.figures.specs.Figures.{at}
use Rattle.figures.specs.Sums.{on}
use Rattle.figures.proofs.Sums.{sum_cong, sum_zero}
use Rattle.rooms.specs.Table.{Room, highest_rank, room_cords}
use Rattle.rooms.specs.Limits.{limit, node_at, parent_of}
use Rattle.rooms.specs.Cords.{cord_at, rank_of}
use Rattle.rooms.specs.Lists.{lows_of}
use Rattle.rooms.proofs.Accepted.{Accepted, accepted}
use Rattle.rooms.proofs.Search.{NoneIn, FirstAt}
use Rattle.deals.specs.Wants.{first_wants}
use Rattle.deals.specs.SecondDeal.{first_deal, first_grants}
use Rattle.deals.specs.Ways.{Root, Way, cord_beneath, watts_beneath, from_rank}
use Rattle.deals.specs.Judge.{below_low, above_want, over_limit, short_at, short_rank, short_root, highest, at_first, verdict}
use Rattle.deals.specs.Promises.{Kept, Greatest, Unbeaten, LowestShort, Says, JudgedExactly, FirstGrantsPass}
use Rattle.deals.specs.declared.Verdict.{Verdict}
use Rattle.deals.specs.declared.Verdict.TheVariants.{Passes, BelowLow, AboveWant, OverLimit, Short}
use Rattle.deals.proofs.BothDeals.{server_facts, cord_facts, first_wants-lows, first_starts}
use Rattle.deals.proofs.Promises.{kept, greatest}
use Rattle.rooms.specs.Trees.{sum_beneath}

-- ---- The first place of which a test holds

-- What `at_first` comes to: there is no such place, or the first.
pub data AtFirst (count n : ℕ) (test : ℕ → Bool) (named : ℕ → Verdict) (otherwise : Verdict) : Verdict → Type 0 where
  none : NoneIn test n (n + count) → AtFirst count n test named otherwise otherwise
  some : (place : ℕ) → FirstAt test count n place → AtFirst count n test named otherwise (named place)

earlier : (test : ℕ → Bool) (n end : ℕ) → test n ≡ false → NoneIn test (suc n) end → NoneIn test n end
earlier test n end e h m a b = at_place (eq-or-lt_of_le a)
  where
    at_place : (n ≡ m) ⊎ (n < m) → test m ≡ false
    at_place (inl q) = ap test (sym q) ∙ e
    at_place (inr l) = h m l b

pub at_first_is : (count n : ℕ) (test : ℕ → Bool) (named : ℕ → Verdict) (otherwise : Verdict)
    → AtFirst count n test named otherwise (at_first count n test named otherwise)
unfolding at_first
at_first_is zero n test named otherwise = none (λ m a b. absurd (omega arith))
at_first_is (suc count) n test named otherwise = go (test n) refl (at_first count (suc n) test named otherwise) (at_first_is count (suc n) test named otherwise)
  where
    go : (t : Bool) → test n ≡ t → (v : Verdict) → AtFirst count (suc n) test named otherwise v
        → AtFirst (suc count) n test named otherwise (cond t (named n) v)
    go true e v h = some n (record { from = omega arith; within = omega arith; holds = e; before = λ m a b. absurd (omega arith) })
    go false e v (none h) = none (λ m a b. earlier test n (suc n + count) e h m a (omega arith))
    go false e v (some place f) =
        some place
        (record { from = omega (arith, f.from); within = omega (arith, f.within); holds = f.holds; before = earlier test n place e f.before })

clash : {A : Type 0} (t : Bool) → t ≡ true → t ≡ false → A
clash t p q = absurd (suc-ne-zero 0 (cc))

module _ (count n : ℕ) (test : ℕ → Bool) (named : ℕ → Verdict) (otherwise : Verdict) where
  pub at_first_none : NoneIn test n (n + count) → at_first count n test named otherwise ≡ otherwise
  at_first_none h = go (at_first count n test named otherwise) (at_first_is count n test named otherwise)
    where
      go : (v : Verdict) → AtFirst count n test named otherwise v → v ≡ otherwise
      go v (none _) = refl
      go v (some place f) = clash (test place) f.holds (h place f.from f.within)

  pub at_first_some : (place : ℕ) → FirstAt test count n place → at_first count n test named otherwise ≡ named place
  at_first_some place g = go (at_first count n test named otherwise) (at_first_is count n test named otherwise)
    where
      same : (p q : ℕ) → FirstAt test count n p → FirstAt test count n q → p ≡ q
      same p q f g = go (ltb p q) refl (ltb q p) refl
        where
          go : (s : Bool) → ltb p q ≡ s → (t : Bool) → ltb q p ≡ t → p ≡ q
          go true e t d = clash (test p) f.holds (g.before p f.from (ltb-true p q e))
          go false e true d = clash (test q) g.holds (f.before q g.from (ltb-true q p d))
          go false e false d = omega (arith, ltb-false p q e, ltb-false q p d)

      go : (v : Verdict) → AtFirst count n test named otherwise v → v ≡ named place
      go v (none h) = clash (test place) g.holds (h place g.from g.within)
      go v (some p f) = ap named (same p place f g)

-- What holds of the verdict on the first such place, and of the other where there is none, holds of what it comes to.
pub at_first_means : (P : Verdict → Type 0) (count n : ℕ) (test : ℕ → Bool) (named : ℕ → Verdict) (otherwise : Verdict)
    → (NoneIn test n (n + count) → P otherwise) → ((place : ℕ) → FirstAt test count n place → P (named place))
    → P (at_first count n test named otherwise)
at_first_means P count n test named otherwise a b = go (at_first count n test named otherwise) (at_first_is count n test named otherwise)
  where
    go : (v : Verdict) → AtFirst count n test named otherwise v → P v
    go v (none h) = a h
    go v (some place f) = b place f

-- ---- The highest number of which a test holds

module _ (test : ℕ → Bool) where
  pub highest_most : (k : ℕ) → highest test k ≤ k
  unfolding highest
  highest_most zero = omega arith
  highest_most (suc k) = go (test (suc k)) (highest_most k)
    where
      go : (t : Bool) → highest test k ≤ k → cond t (suc k) (highest test k) ≤ suc k
      go true h = omega arith
      go false h = omega arith

  -- Nothing above it holds.
  pub highest-above : (k j : ℕ) → highest test k < j → j ≤ k → test j ≡ false
  unfolding highest
  highest-above zero j a b = absurd (omega arith)
  highest-above (suc k) j a b = go (test (suc k)) refl a (eq-or-lt_of_le b) (λ h l. highest-above k j h l)
    where
      go : (t : Bool) → test (suc k) ≡ t → cond t (suc k) (highest test k) < j → (j ≡ suc k) ⊎ (j < suc k)
          → (highest test k < j → j ≤ k → test j ≡ false) → test j ≡ false
      go true e h w ih = absurd (omega arith)
      go false e h (inl q) ih = ap test q ∙ e
      go false e h (inr l) ih = ih h (omega arith)

  -- It holds of it, where there is one.
  pub highest_holds : (k : ℕ) → 0 < highest test k → test (highest test k) ≡ true
  unfolding highest
  highest_holds zero p = absurd (omega arith)
  highest_holds (suc k) p = go (test (suc k)) refl p (highest_holds k)
    where
      go : (t : Bool) → test (suc k) ≡ t → 0 < cond t (suc k) (highest test k)
          → (0 < highest test k → test (highest test k) ≡ true) → test (cond t (suc k) (highest test k)) ≡ true
      go true e h ih = e
      go false e h ih = ih h

  pub highest_none : (k : ℕ) → ((j : ℕ) → j < k → test (suc j) ≡ false) → highest test k ≡ 0
  unfolding highest
  highest_none zero h = refl
  highest_none (suc k) h = ap (λ (t : Bool). cond t (suc k) (highest test k)) (h k (le_refl (suc k))) ∙ highest_none k (λ j l. h j (omega arith))

  -- One that holds, with none above it, is the highest.
  pub highest_some : (k j : ℕ) → 1 ≤ j → j ≤ k → test j ≡ true → ((i : ℕ) → j < i → test i ≡ false) → highest test k ≡ j
  highest_some k j one most holds above =
      go (ltb (highest test k) j) refl (ltb j (highest test k)) refl
    where
      go : (s : Bool) → ltb (highest test k) j ≡ s → (t : Bool) → ltb j (highest test k) ≡ t → highest test k ≡ j
      go true e t d = clash (test j) holds (highest-above k j (ltb-true (highest test k) j e) most)
      go false e true d =
          let l = ltb-true j (highest test k) d in
          clash (test (highest test k)) (highest_holds k (omega arith)) (above (highest test k) l)
      go false e false d = omega (arith, ltb-false (highest test k) j e, ltb-false j (highest test k) d)

-- ---- The verdict

and_left : (s t : Bool) → s && t ≡ true → s ≡ true
and_left true t e = refl
and_left false t e = e

and_right : (s t : Bool) → s && t ≡ true → t ≡ true
and_right true t e = e
and_right false t e = clash false e refl

and_both : (s t : Bool) → s ≡ true → t ≡ true → s && t ≡ true
and_both s t p q = rw (p, q)

-- Where the first holds, the second does not.
and_only : (s t : Bool) → s && t ≡ false → s ≡ true → t ≡ false
and_only s t e p = sym (ap (λ (x : Bool). x && t) p) ∙ e

and_either : (s t : Bool) → (s ≡ true → t ≡ false) → s && t ≡ false
and_either true t h = h refl
and_either false t h = refl

module _ (r : Room) (ok : Accepted r) (demands grants : List ℕ) where
  abbrev wants : List ℕ
  wants = first_wants r demands

  abbrev ours : List ℕ
  ours = first_grants r demands

  ours_kept : Kept r wants ours
  unfolding first_grants first_deal
  ours_kept = kept r ok (lows_of r) wants (first_wants-lows r ok demands) (first_starts r ok demands)

  ours_greatest : Greatest r wants ours
  unfolding first_grants first_deal
  ours_greatest = greatest r ok (lows_of r) wants (first_wants-lows r ok demands) (first_starts r ok demands)

  -- Ours is a way of dealing each tree.
  ours_way : (root : ℕ) → Way r root wants ours
  ours_way root = record {
    least = λ c l b. ours_kept.least c l;
    most = λ c l b. ours_kept.most c l;
    within = λ n l b. ours_kept.within n l;
  }

  abbrev total : ℕ → ℕ → List ℕ → ℕ
  total n rank watts = watts_beneath r n (from_rank r rank watts)

  -- A tree that is not short is unbeaten, and the other way round.
  unbeaten : (n : ℕ) → Root r n → (rank : ℕ) → total n rank ours ≤ total n rank grants → Unbeaten r wants grants n rank
  unbeaten n top rank h watts way = le_trans (ours_greatest n top rank watts way) h

  unbeaten_not_short : (n rank : ℕ) → Unbeaten r wants grants n rank → short_at r demands grants n rank ≡ false
  unbeaten_not_short n rank h = le-ltb _ _ (h ours (ours_way n))

  -- No rank is above the highest, nor below 1.
  none_above : (n rank : ℕ) → highest_rank < rank → (watts : List ℕ) → total n rank watts ≡ 0
  unfolding sum_beneath
  none_above n rank g watts = sum_cong (room_cords r) _ (λ c. 0) (λ c l.
      let to = (server_facts r ok (cord_at r c).server (cord_facts r ok c l).0).rank_to in
      ap (λ (t : Bool). on (cord_beneath r n c) (on t (at watts c))) (lt-leb rank (rank_of r c) (omega arith)) ∙ on_zero (cord_beneath r n c))
      ∙ sum_zero (room_cords r)
    where
      on_zero : (t : Bool) → on t 0 ≡ 0
      on_zero true = refl
      on_zero false = refl

  all_from_one : (n : ℕ) (watts : List ℕ) → total n 0 watts ≡ total n 1 watts
  unfolding sum_beneath
  all_from_one n watts = sum_cong (room_cords r) _ _ (λ c l.
      let from = (server_facts r ok (cord_at r c).server (cord_facts r ok c l).0).rank_from in
      ap (λ (t : Bool). on (cord_beneath r n c) (on t (at watts c))) (le-leb 0 (rank_of r c) zero-le ∙ sym (le-leb 1 (rank_of r c) from)))

  -- Unbeaten at the ranks from 1 to the highest that are above a bound, a tree is unbeaten at all that are.
  from_ranks : (n : ℕ) → Root r n → (bound : ℕ) → ((k : ℕ) → bound < suc k → k < highest_rank → short_at r demands grants n (suc k) ≡ false)
      → (rank : ℕ) → bound < suc rank → bound ≤ rank → (bound < rank) ⊎ (bound ≡ 0) → Unbeaten r wants grants n rank
  from_ranks n top bound h zero a b w = unbeaten n top 0 (
      le_trans (le_of_eq (all_from_one n ours)) (le_trans (ltb-false _ _ (h 0 (omega arith) (omega arith))) (le_of_eq (sym (all_from_one n grants)))))
  from_ranks n top bound h (suc k) a b w = go (dec_le (suc k) highest_rank)
    where
      above : (bound < suc k) ⊎ (bound ≡ 0) → bound < suc k
      above (inl l) = l
      above (inr e) = omega arith

      go : Dec (suc k ≤ highest_rank) → Unbeaten r wants grants n (suc k)
      go (yes l) = unbeaten n top (suc k) (ltb-false _ _ (h k (above w) l))
      go (no g) = unbeaten n top (suc k) (omega (arith, none_above n (suc k) (omega arith) ours))

  -- A root with no short rank is unbeaten at every rank.
  root_unbeaten : (n : ℕ) → Root r n → short_root r demands grants n ≡ false → (rank : ℕ) → Unbeaten r wants grants n rank
  unfolding short_rank
  root_unbeaten n top e rank =
      let zero_rank = ltb-false 0 (short_rank r demands grants n) (and_only _ _ e (eq-eqb (parent_of r n) 0 top.top)) in
      from_ranks n top 0 (λ k a l. highest-above (short_at r demands grants n) highest_rank (suc k) (omega (arith, zero_rank)) l) rank (omega arith) (omega arith) (inr refl)

  unbeaten_root : (n : ℕ) → n < length r.nodes → (Root r n → (rank : ℕ) → Unbeaten r wants grants n rank) → short_root r demands grants n ≡ false
  unfolding short_rank
  unbeaten_root n l h =
      and_either (eqb (parent_of r n) 0) _ (λ t.
      let top : Root r n = record { node = l; top = eqb-true (parent_of r n) 0 t } in
      le-ltb 0 (short_rank r demands grants n) (le_of_eq (highest_none (short_at r demands grants n) highest_rank (λ j k. unbeaten_not_short n (suc j) (h top (suc j))))))

  -- ---- From the verdict to what it says

  abbrev no_low : Type 0
  no_low = NoneIn (below_low r grants) 0 (0 + room_cords r)

  abbrev no_want : Type 0
  no_want = NoneIn (above_want r demands grants) 0 (0 + room_cords r)

  abbrev no_over : Type 0
  no_over = NoneIn (over_limit r grants) 0 (0 + length r.nodes)

  lows_kept : no_low → (c : ℕ) → c < room_cords r → at (lows_of r) c ≤ at grants c
  lows_kept h c l = ltb-false _ _ (h c zero-le (omega arith))

  wants_kept : no_want → (c : ℕ) → c < room_cords r → at grants c ≤ at wants c
  wants_kept h c l = ltb-false _ _ (h c zero-le (omega arith))

  limits_kept : no_over → (n : ℕ) → n < length r.nodes → watts_beneath r n (at grants) ≤ limit (node_at r n)
  limits_kept h n l = ltb-false _ _ (h n zero-le (omega arith))

  says_short : Kept r wants grants → (n : ℕ) → FirstAt (short_root r demands grants) (length r.nodes) 0 n
      → LowestShort r wants grants (suc n) (short_rank r demands grants n)
  unfolding short_rank
  says_short k n f =
      let test = short_at r demands grants n in
      let rank : ℕ = short_rank r demands grants n in
      let top : Root r n = record { node = omega (arith, f.within); top = eqb-true (parent_of r n) 0 (and_left (eqb (parent_of r n) 0) (ltb 0 rank) f.holds) } in
      let some : 0 < rank = ltb-true 0 rank (and_right (eqb (parent_of r n) 0) (ltb 0 rank) f.holds) in
      record {
        kept = k;
        place = n;
        numbered = refl;
        root = top;
        is_rank = (some, highest_most test highest_rank);
        beaten = record { watts = ours; way = ours_way n; more = ltb-true _ _ (highest_holds test highest_rank some) };
        higher = λ other l. from_ranks n top (short_rank r demands grants n) (λ j a b. highest-above test highest_rank (suc j) a b) other (omega arith) (omega arith) (inl l);
        lower = λ m l root. root_unbeaten m root (f.before m zero-le l);
      }

  says : Says r wants grants (verdict r demands grants)
  unfolding verdict
  says =
      at_first_means (Says r wants grants) (room_cords r) 0 (below_low r grants) BelowLow _
      (λ low. at_first_means (Says r wants grants) (room_cords r) 0 (above_want r demands grants) AboveWant _
      (λ want. at_first_means (Says r wants grants) (length r.nodes) 0 (over_limit r grants) (λ n. OverLimit (suc n)) _
      (λ over.
      let keeps : Kept r wants grants = record { least = lows_kept low; most = wants_kept want; within = limits_kept over } in
      at_first_means (Says r wants grants) (length r.nodes) 0 (short_root r demands grants) (λ n. Short (suc n) (short_rank r demands grants n)) Passes
      (λ short. (keeps, λ root top rank. root_unbeaten root top (short root zero-le (omega (arith, top.node))) rank))
      (λ n f. says_short keeps n f))
      (λ n f. record {
        lows = lows_kept low;
        wanted = wants_kept want;
        place = n;
        numbered = refl;
        node = omega (arith, f.within);
        over = ltb-true _ _ f.holds;
        lower = λ m l. ltb-false _ _ (f.before m zero-le l);
      }))
      (λ c f. record { lows = lows_kept low; cord = omega (arith, f.within); above = ltb-true _ _ f.holds; lower = λ h l. ltb-false _ _ (f.before h zero-le l) }))
      (λ c f. record { cord = omega (arith, f.within); below = ltb-true _ _ f.holds; lower = λ h l. ltb-false _ _ (f.before h zero-le l) })

  -- ---- From what it says to the verdict

  -- The verdict from the second kind of failure on, from the third and from the fourth.
  abbrev of_short : Verdict
  of_short = at_first (length r.nodes) 0 (short_root r demands grants) (λ n. Short (suc n) (short_rank r demands grants n)) Passes

  abbrev of_limits : Verdict
  of_limits = at_first (length r.nodes) 0 (over_limit r grants) (λ n. OverLimit (suc n)) of_short

  abbrev of_wants : Verdict
  of_wants = at_first (room_cords r) 0 (above_want r demands grants) AboveWant of_limits

  past_lows : ((c : ℕ) → c < room_cords r → at (lows_of r) c ≤ at grants c) → verdict r demands grants ≡ of_wants
  unfolding verdict
  past_lows h = at_first_none (room_cords r) 0 (below_low r grants) BelowLow of_wants (λ c a b. le-ltb _ _ (h c (omega arith)))

  past_wants : ((c : ℕ) → c < room_cords r → at grants c ≤ at wants c) → of_wants ≡ of_limits
  past_wants h = at_first_none (room_cords r) 0 (above_want r demands grants) AboveWant of_limits (λ c a b. le-ltb _ _ (h c (omega arith)))

  past_kept : Kept r wants grants → verdict r demands grants ≡ of_short
  past_kept k =
      past_lows k.least ∙ past_wants k.most
      ∙ at_first_none (length r.nodes) 0 (over_limit r grants) (λ n. OverLimit (suc n)) of_short (λ n a b. le-ltb _ _ (k.within n (omega arith)))

  short-rank : {number rank : ℕ} (s : LowestShort r wants grants number rank) → short_rank r demands grants s.place ≡ rank
  unfolding short_rank
  short-rank {rank = rank} s =
      let more : total s.place rank grants < total s.place rank ours
      = omega (arith, s.beaten.more, ours_greatest s.place s.root rank s.beaten.watts s.beaten.way) in
      highest_some (short_at r demands grants s.place) highest_rank rank s.is_rank.0 s.is_rank.1 (lt-ltb _ _ more) (λ i l. unbeaten_not_short s.place i (s.higher i l))

  means : (v : Verdict) → Says r wants grants v → verdict r demands grants ≡ v
  unfolding verdict
  means Passes k =
      past_kept k.0
      ∙ at_first_none (length r.nodes) 0 (short_root r demands grants) _ Passes (λ n a b. unbeaten_root n (omega arith) (λ top rank. k.1 n top rank))
  means (BelowLow c) k =
      at_first_some (room_cords r) 0 (below_low r grants) BelowLow of_wants c
      (record { from = zero-le; within = omega (arith, k.cord); holds = lt-ltb _ _ k.below; before = λ h a b. le-ltb _ _ (k.lower h b) })
  means (AboveWant c) k =
      past_lows k.lows
      ∙ at_first_some (room_cords r) 0 (above_want r demands grants) AboveWant of_limits c
      (record { from = zero-le; within = omega (arith, k.cord); holds = lt-ltb _ _ k.above; before = λ h a b. le-ltb _ _ (k.lower h b) })
  means (OverLimit node) k =
      past_lows k.lows ∙ past_wants k.wanted
      ∙ at_first_some (length r.nodes) 0 (over_limit r grants) (λ n. OverLimit (suc n)) of_short k.place
      (record { from = zero-le; within = omega (arith, k.node); holds = lt-ltb _ _ k.over; before = λ h a b. le-ltb _ _ (k.lower h b) })
      ∙ ap OverLimit (sym k.numbered)
  means (Short number rank) k =
      let n : ℕ = k.place in
      let is = short-rank k in
      past_kept k.kept
      ∙ at_first_some (length r.nodes) 0 (short_root r demands grants) (λ n. Short (suc n) (short_rank r demands grants n)) Passes n
      (record {
        from = zero-le;
        within = omega (arith, k.root.node);
        holds = and_both _ _ (eq-eqb (parent_of r n) 0 k.root.top) (lt-ltb 0 (short_rank r demands grants n) (omega (arith, is, k.is_rank.0)));
        before = λ m a b. unbeaten_root m (omega (arith, k.root.node)) (λ top other. k.lower m b top other);
      })
      ∙ ap₂ Short (sym k.numbered) is

-- ---- The promises

pub judged_exactly : JudgedExactly
judged_exactly table r end e demands grants v =
    let ok = accepted table r end e in (
      λ is. subst (Says r (first_wants r demands) grants) is (says r ok demands grants),
      means r ok demands grants v,
    )

pub first_grants_pass : FirstGrantsPass
first_grants_pass table r end e demands =
    let ok = accepted table r end e in
    means r ok demands (first_grants r demands) Passes (ours_kept r ok demands (first_grants r demands), ours_greatest r ok demands (first_grants r demands))
