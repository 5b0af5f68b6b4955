-- The cases of document 01 that are marked P: one table, and one statement about the definitions.
use Rattle.std.specs.Prelude.{ℕ, zero, suc, ◌≡◌, refl, List, [], ◌∷◌, ◌++◌, Bool, true, false, ◌&&◌, length, drop, set, replicate, eqb, ℤ, pos, negsuc}
use Rattle.std.specs.Bool.{beq}
use Rattle.std.specs.Int.Count.{count_leading_zeros}
use Rattle.bins.specs.Bits.{bits}
use Rattle.tables.specs.Tables.{range_tab_lps, trans_idx_mps, trans_idx_lps, lps_of, on_mps, on_lps}
use Rattle.bins.specs.Engine.{place, Decided, Drawn, fetched, started, split_by, split, decided, bypassed}
use Rattle.bins.specs.Tags.{context_count, is_entry}
use Rattle.cabac.specs.Contexts.{slope_raised, pre_raised, initial, initial_all}
use Rattle.bins.specs.Syn.{◌>>=◌, run, by_engine, by_list, write}
use Rattle.bins.specs.Readers.{bits_s, ones_s, prefix_s}
use Rattle.cabac.specs.Numbers.{Answer, accepted, refused, ◌or_else◌, unless, payload_refusal, possible, state_refusal, context_refusal, count_refusal, offset_refusal, ended_refusal}
use Rattle.cabac.specs.Entries.{start, decision, bypass_bits}
use Rattle.hevc_residual.specs.declared.params.Params.{Params}
use Rattle.hevc_residual.specs.declared.params.Rdpcm.TheVariants as of_rdpcm
use Rattle.hevc_residual.specs.Scan.{scan_order, number_in, sig_ctx}
use Rattle.hevc_residual.specs.Wanted.{spot_in, wanted_in, down_from}
use Rattle.hevc_residual.specs.Head.{least_of, last_prefix, groups_s, head_s}
use Rattle.hevc_residual.specs.Remainder.{remainder_s}
use Rattle.hevc_residual.specs.Residual.{residual}
use Rattle.hevc_residual.specs.Refusal.{write_refusal}
use Rattle.hevc_residual.specs.Numbers.{within_limits, parameter_refusal, contexts_refusal, statistic_refusal, statistics_refusal, room_refusal}
use Rattle.hevc_residual.specs.Entries.{PayloadRead, read_by_engine, read_payload_by, read_payload, BinsRead, read_from_list, read_bins_by, read_bins, BinsWritten, write_list_by, write_list, write_bins_by, write_bins}
use Rattle.hevc_residual.specs.AllOff.{all_off}

pub data Case : Type 0 where
  any_init_case : ℕ → ℕ → Case  -- value, context at every q
  init_case : ℕ → ℕ → ℕ → Case  -- value, q, context
  start_case : List ℕ → ℕ → Case  -- payload, number given
  bypass_case : List ℕ → ℕ → ℕ → ℕ → ℕ → ℕ → Case  -- payload, count, answer, offset, position, bits past the end
  decision_case : List ℕ → ℕ → Bool → ℕ → ℕ → ℕ → Case  -- payload, context, bin, range, offset, context behind it
  list_case : List ℤ → List ℕ → ℕ → ℕ → Case  -- levels, bin list in bytes, column and row extent
  payload_case : List ℕ → ℕ → List ℤ → ℕ → ℕ → ℕ → List ℕ → Case  -- payload, initial values, levels, position, range, offset, the contexts that are now 0
  hiding_case : List ℤ → ℕ → Case  -- levels, number given with hiding on

-- blocks are 4x4 luma, scan 0, all options off
pub table : List Case
table =
    any_init_case 154 64
    ∷ init_case 139 26 0
    ∷ init_case 110 0 96
    ∷ init_case 0 51 62
    ∷ init_case 255 51 126
    ∷ start_case (0xff ∷ 0x00 ∷ []) 5
    ∷ start_case (0xff ∷ 0x80 ∷ []) 5
    ∷ bypass_case (0x80 ∷ 0x00 ∷ []) 3 4 8 12 0
    ∷ bypass_case (0x80 ∷ 0x00 ∷ []) 10 514 11 16 3
    ∷ decision_case (0xfe ∷ 0x80 ∷ []) 0 true 480 478 64
    ∷ list_case (pos 1 ∷ replicate 15 (pos 0)) (0 ∷ 0 ∷ 36 ∷ 0 ∷ 170 ∷ 0 ∷ 4 ∷ 1 ∷ []) 0 0
    ∷ list_case (pos 0 ∷ pos 1 ∷ pos 0 ∷ pos 0 ∷ pos 1 ∷ replicate 11 (pos 0)) (1 ∷ 0 ∷ 2 ∷ 0 ∷ 36 ∷ 0 ∷ 77 ∷ 0 ∷ 72 ∷ 0 ∷ 170 ∷ 0 ∷ 172 ∷ 0 ∷ 4 ∷ 1 ∷ 4 ∷ 1 ∷ []) 1 1
    ∷ payload_case (0xfe ∷ 0x80 ∷ []) 154 (negsuc 0 ∷ replicate 15 (pos 0)) 13 480 464 (0 ∷ 18 ∷ 85 ∷ [])
    ∷ hiding_case (pos 1 ∷ replicate 4 (pos 0) ++ (pos 1 ∷ replicate 10 (pos 0))) 0
    ∷ hiding_case (negsuc 0 ∷ replicate 4 (pos 0) ++ (pos 1 ∷ replicate 10 (pos 0))) 11
    ∷ hiding_case (negsuc 0 ∷ replicate 7 (pos 0) ++ (pos 1 ∷ replicate 7 (pos 0))) 0
    ∷ []

-- ---- the test
plain : Bool → Params
plain hiding =
    all_off 2 true 0 8 hiding

stats : List ℕ
stats = replicate 4 0

-- what is lent: more than is needed, and not zero
lent_block : List ℤ
lent_block = replicate 17 (pos 7)

lent_room : List ℕ
lent_room = replicate 31 255

sameℤ : ℤ → ℤ → Bool
sameℤ (pos a) (pos b) = eqb a b
sameℤ (negsuc a) (negsuc b) = eqb a b
sameℤ (pos a) (negsuc b) = false
sameℤ (negsuc a) (pos b) = false

same_list : {A : Type 0} → (A → A → Bool) → List A → List A → Bool
same_list same [] [] = true
same_list same (a ∷ x) [] = false
same_list same [] (b ∷ y) = false
same_list same (a ∷ x) (b ∷ y) = same a b && same_list same x y

-- accepted, and the test holds of what is given
passing : {A : Type 0} → Answer A → (A → Bool) → Bool
passing (accepted a) test = test a
passing (refused n) test = false

number_of : {A : Type 0} → Answer A → ℕ
number_of (accepted a) = 0
number_of (refused n) = n

-- at every q below the bound
at_every : ℕ → ℕ → ℕ → Bool
at_every v ctx zero = true
at_every v ctx (suc q) = eqb (initial v q) ctx && at_every v ctx q

bypass_is : ℕ → ℕ → ℕ → ℕ → Drawn → Bool
bypass_is value offset at past d =
    eqb d.value value && (eqb d.next.offset offset && (eqb (place d.next) at && eqb d.next.past past))

decision_is : Bool → ℕ → ℕ → ℕ → Decided → Bool
decision_is bit range offset ctx d =
    beq d.bit bit && (eqb d.next.range range && (eqb d.next.offset offset && eqb d.ctx ctx))

-- the levels stand at the front of the block lent, with what was lent behind them
block_is : List ℤ → List ℤ → Bool
unfolding same_list sameℤ lent_block
block_is levels block = same_list sameℤ block (levels ++ drop (length levels) lent_block)

-- the list stands at the front of the room, with what was lent behind it
written_is : List ℕ → BinsWritten → Bool
unfolding same_list passing lent_room
written_is bins w =
    passing w.answer (eqb (length bins)) && same_list eqb w.room (bins ++ drop (length bins) lent_room)

bins_read_is : List ℤ → ℕ → ℕ → BinsRead → Bool
unfolding block_is passing
bins_read_is levels column row r =
    passing r.answer (λ f. eqb f.column column && eqb f.row row) && block_is levels r.block

-- the contexts with 0 at some numbers
zero_at : List ℕ → List ℕ → List ℕ
zero_at [] cs = cs
zero_at (i ∷ is) cs = zero_at is (set cs i 0)

payload_read_is : List ℤ → ℕ → ℕ → ℕ → List ℕ → PayloadRead → Bool
unfolding block_is passing same_list
payload_read_is levels at range offset contexts r =
    passing r.answer
    (λ f. eqb (place f.next) at && (eqb f.next.range range && eqb f.next.offset offset))
    && (block_is levels r.block && same_list eqb r.contexts contexts)

passes : Case → Bool
unfolding plain stats lent_block lent_room passing number_of at_every bypass_is decision_is written_is bins_read_is zero_at payload_read_is
passes (any_init_case v ctx) = at_every v ctx 256
passes (init_case v q ctx) = eqb (initial v q) ctx
passes (start_case l n) = eqb (number_of (start l)) n
passes (bypass_case l c value offset at past) =
    passing (start l) (λ e. passing (bypass_bits l e c) (bypass_is value offset at past))
passes (decision_case l ctx bit range offset ctx') =
    passing (start l) (λ e. passing (decision l e ctx) (decision_is bit range offset ctx'))
passes (list_case levels bins column row) =
    written_is bins (write_bins (plain false) stats levels false of_rdpcm.None lent_room)
    && bins_read_is levels column row (read_bins bins stats (plain false) lent_block)
passes (payload_case l v levels at range offset zeroed) =
    let contexts = initial_all 0 (replicate context_count v) in
    passing (start l)
    (λ e. payload_read_is levels at range offset (zero_at zeroed contexts)
    (read_payload l e contexts stats (plain false) lent_block))
passes (hiding_case levels n) =
    eqb (number_of (write_bins (plain true) stats levels false of_rdpcm.None lent_room).answer) n

pub all_pass : List Case → Bool
unfolding passes
all_pass [] = true
all_pass (c ∷ cs) = passes c && all_pass cs

-- the statement
pub marked_cases : all_pass table ≡ true
unfolding is_entry all_pass table bits range_tab_lps trans_idx_mps trans_idx_lps lps_of on_mps on_lps fetched started split_by split decided bypassed slope_raised pre_raised initial initial_all count_leading_zeros ◌>>=◌ run by_engine by_list write bits_s ones_s prefix_s ◌or_else◌ unless payload_refusal possible state_refusal context_refusal count_refusal offset_refusal ended_refusal start decision bypass_bits scan_order number_in sig_ctx spot_in wanted_in down_from least_of last_prefix groups_s head_s remainder_s residual write_refusal within_limits parameter_refusal contexts_refusal statistic_refusal statistics_refusal room_refusal read_by_engine read_payload_by read_payload read_from_list read_bins_by read_bins write_list_by write_list write_bins_by write_bins
marked_cases = refl
