-- The walk over a good table's servers, in which each cord is judged and noted in its turn.
use mathlib.Core.Path.{◌≡◌, refl, sym, ap, ◌∙◌}
use mathlib.Core.Bool.{cond}
use mathlib.Core.List.{List}
use Prim.Native.Nat.{ℕ, suc, ◌+◌, ◌-◌, ◌*◌, ◌^◌, ◌≤◌, ◌<◌, min, max, zero-le}
use native.Mathlib.Omega.{arith}
use lib.Dec.{ltb}
use lib.ListN.{length}
use borrow.Author.Tests.{lt-ltb}
use Rattle.std.specs.Prelude.{Option, None, Some}
use Rattle.figures.specs.Figures.{at}
use Rattle.rooms.specs.Part.{good, Good}
use Rattle.rooms.specs.Table.{Room, IsScale, most_nodes, most_servers, most_cords, most_watts, highest_rank, room_cords}
use Rattle.rooms.specs.Limits.{checked, carried}
use Rattle.rooms.specs.Cords.{RoomCord, server_at}
use Rattle.rooms.specs.Lists.{nodes_of, levels_of, lows_of}
use Rattle.rooms.specs.Rows.{ServersFit, CordsFit, ScaleIs}
use Rattle.rooms.specs.Walk.{servers_index}
use Rattle.rooms.proofs.Accepted.{Accepted, accepted}
use Rattle.rooms.proofs.Walk.{Walk, ServerHere, walk_start, walk_server, walk_end}
use Rattle.deals.specs.Wants.{first_wants}
use Rattle.deals.specs.Judge.{below_low, above_want}
use Rattle.deals.proofs.RoomDeals.{nodes_of-length, nodes_of-at, levels_of-at}
use Rattle.layout.proofs.Carrying.{CordStands, cord_stands, carried_as, low_is, want_is}
use Rattle.judge_totals.specs.Totals.{Unnoted, CordsJudged, Notes, noted_on}
use Rattle.judge_totals.proofs.Noted.{Sized}
use Rattle.judge_totals.proofs.Searching.{is_first}
use Rattle.judge_totals.proofs.Noting.{CordTurns, AboveNext, cords_start, cords_next, cords-end}

-- The walk stands before the server at place v, whose cords stand from place `first` on; the cords before place c had their turns.
pub record Walking (count : ℕ) (table demands grants : List ℕ) (scale v start first c : ℕ) (above : Option ℕ) (notes : Notes) : Type 0 where
  pub enough : most_nodes ≤ count
  pub room : Room
  pub end : ℕ
  pub read : checked table 0 ≡ good room end
  pub scale_is : scale ≡ room.scale
  pub demands_size : length demands ≡ length room.servers
  pub grants_size : length grants ≡ room_cords room
  pub walk : Walk table room v start first
  pub turns : CordTurns count (nodes_of room) (levels_of room) (lows_of room) (first_wants room demands) grants c above notes

-- Within that server, of which these figures are read: the words of the cord at place c start at index `word`.
pub record WalkingServer (count : ℕ) (table demands grants : List ℕ) (scale v start first rank least need cords c word : ℕ) (above : Option ℕ) (notes : Notes) : Type 0 where
  pub walking : Walking count table demands grants scale v start first c above notes
  pub more : v < length demands
  pub rank_is : rank ≡ at table start
  pub least_is : least ≡ at table (start + 1)
  pub need_is : need ≡ min (max (at demands v) (at table (start + 1))) (at table (start + 2))
  pub counted : cords ≡ at table (start + 3)
  pub from : first ≤ c
  pub to : c ≤ first + cords
  pub next : word + 2 * first ≡ start + 4 + 2 * c

walk_to : {table : List ℕ} {r : Room} {v i j c d : ℕ} → i ≡ j → c ≡ d → Walk table r v j d → Walk table r v i c
walk_to e f walk = rw (e, f) walk

pub walking_start : {count : ℕ} {table demands grants : List ℕ} {scale : ℕ} {notes : Notes} → most_nodes ≤ count → (g : Good (checked table 0)) → ScaleIs table scale
    → ServersFit table (length demands) → CordsFit table (length grants) → length notes.given ≡ count → Sized count notes → ((n : ℕ) → at notes.given n ≡ 0) → Unnoted count notes
    → {start : ℕ} → start ≡ servers_index table + 1 → Walking count table demands grants scale 0 start 0 0 None notes
walking_start enough g si sf cf all size zeros none e = record {
  enough = enough;
  room = g.value;
  end = g.next;
  read = g.is;
  scale_is = si g.value g.next g.is;
  demands_size = sf g.value g.next g.is;
  grants_size = cf g.value g.next g.is;
  walk = walk_to e refl (walk_start g.is);
  turns = cords_start all size zeros none;
}

module _ {count : ℕ} {table demands grants : List ℕ} {scale v start first c : ℕ} {above : Option ℕ} {notes : Notes}
    (walking : Walking count table demands grants scale v start first c above notes) where
  ok : Accepted walking.room
  ok = accepted table walking.room walking.end walking.read

  pub walking_server : v < length demands → ServerHere table walking.room v start first
  walking_server more = walk_server walking.walk (omega (arith, walking.demands_size))

  pub few-cords : v < length demands → first + at table (start + 3) ≤ most_cords
  few-cords more = omega (arith, (walking_server more).cords-within, ok.few_cords)

  pub few-servers : v < length demands → v < most_servers
  few-servers more = omega (arith, walking.demands_size, ok.few_servers)

  pub server_begin : (more : v < length demands) → {rank least need cords : ℕ} → rank ≡ at table start → least ≡ at table (start + 1)
      → need ≡ min (max (at demands v) (at table (start + 1))) (at table (start + 2)) → cords ≡ at table (start + 3) → c ≡ first
      → WalkingServer count table demands grants scale v start first rank least need cords c (start + 4) above notes
  server_begin more er el en ec e = record {
    walking = walking;
    more = more;
    rank_is = er;
    least_is = el;
    need_is = en;
    counted = ec;
    from = omega arith;
    to = omega arith;
    next = omega arith;
  }

  -- All servers are passed.
  pub judged-all : length demands ≤ v → c ≡ first → (r : Room) (end : ℕ) → checked table 0 ≡ good r end
      → CordsJudged r demands grants count (record { below = None; above = above }) notes
  judged-all h e r end is =
      let read = walking.read in
      let same : walking.room ≡ r = cc in
      let sizes = nodes_of-length walking.room in
      let all : c ≡ room_cords walking.room = e ∙ walk_end walking.walk (omega (arith, walking.demands_size)) in
      rw (← same)
      (record {
        below_is = is_first (below_low walking.room grants) (room_cords walking.room) None (rw all at walking.turns.below);
        above_is = λ z. is_first (above_want walking.room demands grants) (room_cords walking.room) above (rw all at walking.turns.first_above);
        noted = λ z y. cords-end walking.turns (sizes ∙ sym all) y;
      })

-- What code relies on at a cord.
pub record CordFits (count : ℕ) (table grants : List ℕ) (scale least need c word : ℕ) (notes : Notes) : Type 0 where
  pub there : word + 1 < length table
  pub few : c < most_cords
  pub in_grants : c < length grants
  pub scaled : IsScale scale
  pub share_most : at table (word + 1) ≤ scale
  pub least_most : least ≤ most_watts
  pub need_most : need ≤ most_watts
  pub node_most : at table word ≤ count
  pub small : (n : ℕ) → at notes.given n < 2 ^ 63

module _ {count : ℕ} {table demands grants : List ℕ} {scale v start first rank least need cords c word : ℕ} {above : Option ℕ} {notes : Notes}
    (server : WalkingServer count table demands grants scale v start first rank least need cords c word above notes) where
  abbrev walking : Walking count table demands grants scale v start first c above notes
  walking = server.walking

  abbrev r : Room
  r = server.walking.room

  standing : ServerHere table r v start first
  standing = walking_server walking server.more

  -- The server is passed, after its cords.
  pub server-end : first + cords ≤ c → Walking count table demands grants scale (v + 1) word (first + cords) (first + cords) above notes
  server-end h =
      let all : first + cords ≡ c = omega (arith, server.to) in
      let w : word ≡ start + (4 + 2 * at table (start + 3)) = omega (arith, server.counted, server.next) in
      record {
        enough = walking.enough;
        room = r;
        end = walking.end;
        read = walking.read;
        scale_is = walking.scale_is;
        demands_size = walking.demands_size;
        grants_size = walking.grants_size;
        walk = walk_to w (ap (λ (k : ℕ). first + k) server.counted) standing.next;
        turns = rw all walking.turns;
      }

  module _ (short : c < first + cords) where
    cord : CordStands table r v c word
    cord = cord_stands standing server.from (omega (arith, server.counted)) server.next

    within : c < room_cords r
    within = cord.within

    in_nodes : c < length (nodes_of r)
    in_nodes = omega (arith, within, nodes_of-length r)

    pub cord_fits : CordFits count table grants scale least need c word notes
    cord_fits =
        let node = cord.node_most in
        let share = cord.share_most in
        let few = (ok walking).few_nodes in
        let turns = walking.turns in
        record {
          there = cord.there;
          few = omega (arith, within, (ok walking).few_cords);
          in_grants = omega (arith, within, walking.grants_size);
          scaled = rw walking.scale_is (ok walking).scaled;
          share_most = omega (arith, share, walking.scale_is);
          least_most = omega (arith, server.least_is, standing.ordered, standing.most);
          need_most = omega (arith, server.need_is, standing.most);
          node_most = omega (arith, node, few, walking.enough);
          small = λ n. omega (arith, turns.small n, within, (ok walking).few_cords);
        }

    -- The cord's figures are those of the room.
    node_is : at (nodes_of r) c ≡ at table word
    node_is = nodes_of-at r c ∙ ap (λ (x : RoomCord). x.node) cord.is

    rank_at : rank ≡ suc (at (levels_of r) c)
    rank_at =
        omega (arith, server.rank_is, standing.lowest, standing.rank, levels_of-at r c within, ap (λ (x : RoomCord). (server_at r x.server).rank) cord.is)

    ranked : at (levels_of r) c < highest_rank
    ranked = omega (arith, rank_at, server.rank_is, standing.highest)

    low-at : at (lows_of r) c ≡ carried scale (at table (word + 1)) least
    low-at = sym (carried_as (at table (word + 1)) walking.scale_is server.least_is (low_is standing cord (ok walking)))

    want_at : at (first_wants r demands) c ≡ carried scale (at table (word + 1)) need
    want_at = sym (carried_as (at table (word + 1)) walking.scale_is server.need_is (want_is standing cord demands (omega (arith, server.more, walking.demands_size))))

    -- It has less than its low.
    pub judged_below : {low : ℕ} → low ≡ carried scale (at table (word + 1)) least → at grants c < low
        → (q : Room) (end : ℕ) → checked table 0 ≡ good q end
        → CordsJudged q demands grants count (record { below = Some c; above = above }) notes
    judged_below e h q end read' =
        let read = walking.read in
        let same : r ≡ q = cc in
        rw (← same)
        (record {
          below_is = is_first (below_low r grants) (room_cords r) (Some c)
              (record {
                from = zero-le;
                within = omega (arith, within);
                holds = lt-ltb (at grants c) (at (lows_of r) c) (omega (arith, low-at));
                before = walking.turns.below;
              });
          above_is = λ z. absurd (let f : Some c ≡ None = z in cc);
          noted = λ z y. absurd (let f : Some c ≡ None = z in cc);
        })

    -- One cord more.
    pub server-cord : {node low want grant : ℕ} {above' : Option ℕ} {notes' : Notes} → node ≡ at table word → low ≡ carried scale (at table (word + 1)) least
        → want ≡ carried scale (at table (word + 1)) need → grant ≡ at grants c → low ≤ grant → grant - low < 2 ^ 32
        → AboveNext above want grant c above'
        → notes' ≡ noted_on node (grant - low) (cond (ltb low grant) rank highest_rank) (cond (ltb grant want) rank 0) notes
        → WalkingServer count table demands grants scale v start first rank least need cords (c + 1) (word + 2) above' notes'
    server-cord {node} {low} {want} {grant} {above'} {notes'} en el ew eg le lt turned e =
        let fits = cord_fits in
        let turns = walking.turns in
        let en' : node ≡ at (nodes_of r) c = en ∙ sym node_is in
        let el' : low ≡ at (lows_of r) c = el ∙ sym low-at in
        let ew' : want ≡ at (first_wants r demands) c = ew ∙ sym want_at in
        let next : CordTurns count (nodes_of r) (levels_of r) (lows_of r) (first_wants r demands) grants (c + 1) above' notes'
        = cords_next turns in_nodes ranked (omega (arith, el', eg, le)) (omega (arith, node_is, fits.node_most))
        (omega (arith, el', eg, lt)) en' rank_at el' ew' eg turned e in
        record {
          walking = record {
            enough = walking.enough;
            room = r;
            end = walking.end;
            read = walking.read;
            scale_is = walking.scale_is;
            demands_size = walking.demands_size;
            grants_size = walking.grants_size;
            walk = walking.walk;
            turns = next;
          };
          more = server.more;
          rank_is = server.rank_is;
          least_is = server.least_is;
          need_is = server.need_is;
          counted = server.counted;
          from = omega (arith, server.from);
          to = omega arith;
          next = omega (arith, server.next);
        }
