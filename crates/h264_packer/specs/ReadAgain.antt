-- Request (i) in its own words, of H.264's block: the reader, started on the payload with the same contexts, gives the same levels, greatest magnitude and final
-- contexts as the list says, never runs past the end, and then reads terminate as 1; the length is its position after that, in whole bytes. Assumes nothing.
use Rattle.std.specs.Prelude.{ℕ, ◌≤◌, ◌≡◌, List, [], length, take, ℤ}
use Rattle.std.proofs.Common.{sym, ◌∙◌, arith}
use Rattle.std.proofs.Math.Path.{ap}
use Rattle.bins.specs.declared.state.Engine.{Engine}
use Rattle.bins.specs.Engine.{started}
use Rattle.bins.specs.Syn.{Out, run, by_engine, by_list}
use Rattle.cabac.specs.Numbers.{accepted, payload_refusal, state_refusal, ended_refusal}
use Rattle.cabac.specs.NumberLaws.{or_else_rest}
use Rattle.cabac.specs.Entries.{start}
use Rattle.trees.specs.Levels.{greatest_of}
use Rattle.trees.specs.Lent.{contexts_refusal}
use Rattle.packing.specs.Pack.{packed_from}
use Rattle.packing.proofs.TreeLaws.{Lent}
use Rattle.packing.specs.Packs.{Closes}
use Rattle.packing.proofs.PacksLaws.{closes}
use Rattle.packing.specs.Entries.{pack_tree}
use Rattle.packing.proofs.EntriesLaws.{accepts_is, tree_read_back}
use Rattle.h264_block.specs.Block.{block}
use Rattle.h264_block.proofs.BlockBounds.{block_bounds, block_each}
use Rattle.h264_block.specs.EntryLaws.{block_passes}
use Rattle.h264_block.specs.Entries.{block_refusal, block_with, read_by_engine, read_payload_by, read_payload, read_from_list, read_bins_by, read_bins}
use Rattle.h264_packer.specs.Entries.{pack_bins}
use Rattle.h264_packer.specs.Few.{list_few}

-- P is the payload, lent any block that a reader is handed
pub record ReadAgain (P contexts bins : List ℕ) (lent : List ℤ) : Type 0 where
  pub levels : List ℤ
  pub next : Engine
  pub starts : start P ≡ accepted (started P)
  -- the same levels and greatest magnitude from the payload and from the list; the final contexts are those behind the list's bins
  pub reads : read_payload P (started P) contexts lent
      ≡ record { answer = accepted (record { greatest = greatest_of levels; next = next }); contexts = (packed_from contexts bins).contexts; block = block_with levels lent }
  pub listed : read_bins bins lent ≡ record { answer = accepted (greatest_of levels); block = block_with levels lent }
  pub closes : Closes P next

block_lent : Lent block_bounds
block_lent c h = omega arith

module _ (P contexts bins : List ℕ) (lent levels : List ℤ) (room : 0 ≡ block_refusal lent) where
  payload_read_lem : (e : Engine) (cs' : List ℕ) → 0 ≡ payload_refusal P → 0 ≡ state_refusal P (started P) → 0 ≡ contexts_refusal contexts → 0 ≡ ended_refusal (started P)
      → run (by_engine P) block (record { engine = started P; contexts = contexts }) ≡ Out.ok levels (record { engine = e; contexts = cs' })
      → read_payload P (started P) contexts lent ≡ record { answer = accepted (record { greatest = greatest_of levels; next = e }); contexts = cs'; block = block_with levels lent }
  unfolding read_payload
  payload_read_lem e cs' u w x y q =
      let k = or_else_rest 0 _ _ u (or_else_rest 0 _ _ room (or_else_rest 0 _ _ w (or_else_rest 0 _ _ x y))) in
      ap (λ k. read_payload_by k P (started P) contexts lent) (sym k) ∙ unfold read_payload_by read_by_engine in ap (read_by_engine contexts lent) q

  list_read : run by_list block bins ≡ Out.ok levels [] → read_bins bins lent ≡ record { answer = accepted (greatest_of levels); block = block_with levels lent }
  unfolding read_bins
  list_read q = ap (λ k. read_bins_by k bins lent) (sym room) ∙ unfold read_bins_by read_from_list in ap (read_from_list lent) q

-- The theorem: whatever is accepted, with the number n, the first n bytes of the room are read back as the list says.
pub pack_is_read : (contexts bins room : List ℕ) (n : ℕ) (lent : List ℤ) → (pack_bins contexts bins room).answer ≡ accepted n → 16 ≤ length lent
    → ReadAgain (take n (pack_bins contexts bins room).room) contexts bins lent
unfolding pack_bins
pack_is_read contexts bins room n lent q h =
    let m = contexts_refusal contexts in
    let f = (accepts_is block contexts bins room n m q).fine in
    let r = tree_read_back {j = 0} block_each block_lent m contexts bins room n q (λ l u. omega (arith, list_few bins l u)) in
    let P = take n (pack_tree m block contexts bins room).room in
    let k = r.1 in
    let w = block_passes lent h in
    record {
      levels = r.0.value;
      next = k.state;
      starts = k.starts;
      reads = payload_read_lem P contexts bins lent r.0.value w k.state (packed_from contexts bins).contexts k.admitted k.possible f k.running k.reads;
      listed = list_read P contexts bins lent r.0.value w r.0.read;
      closes = closes P block contexts r.0.value (packed_from contexts bins).contexts k;
    }
