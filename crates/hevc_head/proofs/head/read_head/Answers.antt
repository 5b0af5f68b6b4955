-- From call to call by what is left of the tree.
use Rattle.std.proofs.Common.{◌≤◌, eqb, arith}
use Rattle.bins.specs.StepLaws.{passed_on}
use Rattle.hevc_head_rules.specs.HeadRules.{chroma_few, least_few}
use Rattle.hevc_head.specs.HeadLaws.{read_skip, read_flag, read_dir, read_group_x, read_group_y, read_suffix_x, read_suffix_y, head_ok, group_few, suffix_few}
use Rattle.hevc_head.proofs.head.read_head.Goals as goal

pub returns-in_err-skip : goal.returns-in_err-skip
returns-in_err-skip c =
    let a = c.args in
    let chroma = c.in_chroma-chroma in
    let at_skip =
    read_skip a.p a.list a.bytes.now a.x a.contexts.now c.requires.0 c.skip_coded.result chroma.result c.skip_coded.ensures chroma.ensures
    c.flag_if.result c.flag_if.new.contexts c.flag_if.ensures in
    rw (passed_on c.from_residual.result _ c.from_residual.ensures.1) (at_skip.no _ c.in_err-skip.was)

pub flag_if-requires-2 : goal.flag_if-requires-2
flag_if-requires-2 c =
    let a = c.args in
    let chroma = c.in_chroma-chroma in
    let at_skip =
    read_skip a.p a.list a.bytes.now a.x a.contexts.now c.requires.0 c.skip_coded.result chroma.result c.skip_coded.ensures chroma.ensures
    c.flag_if.result c.flag_if.new.contexts c.flag_if.ensures in
    ((at_skip.ok _ _ c.in_ok-skip.was).reads, omega (arith, chroma_few a.p.luma chroma.result chroma.ensures), c.requires.3)

pub returns-in_err-explicit : goal.returns-in_err-explicit
returns-in_err-explicit c =
    let a = c.args in
    let chroma = c.in_chroma-chroma in
    let at_skip =
    read_skip a.p a.list a.bytes.now a.x a.contexts.now c.requires.0 c.skip_coded.result chroma.result c.skip_coded.ensures chroma.ensures
    c.flag_if.result c.flag_if.new.contexts c.flag_if.ensures in
    let skip = eqb c.in_ok-skip.skip.value 1 in
    let at_flag =
    read_flag a.p a.list a.bytes.now a.x a.contexts.now skip c.in_ok-skip.skip.next c.flag_if.new.contexts (at_skip.ok _ _ c.in_ok-skip.was) c.rdpcm_coded-coded.result chroma.result
    c.rdpcm_coded-coded.ensures chroma.ensures c.flag_if-2.result c.flag_if-2.new.contexts c.flag_if-2.ensures in
    rw (passed_on c.from_residual-in_err-explicit.result _ c.from_residual-in_err-explicit.ensures.1) (at_flag.no _ c.in_err-explicit.was)

pub flag_if-requires-3 : goal.flag_if-requires-3
flag_if-requires-3 c =
    let a = c.args in
    let chroma = c.in_chroma-chroma in
    let at_skip =
    read_skip a.p a.list a.bytes.now a.x a.contexts.now c.requires.0 c.skip_coded.result chroma.result c.skip_coded.ensures chroma.ensures
    c.flag_if.result c.flag_if.new.contexts c.flag_if.ensures in
    let skip = eqb c.in_ok-skip.skip.value 1 in
    let at_flag =
    read_flag a.p a.list a.bytes.now a.x a.contexts.now skip c.in_ok-skip.skip.next c.flag_if.new.contexts (at_skip.ok _ _ c.in_ok-skip.was) c.rdpcm_coded-coded.result chroma.result
    c.rdpcm_coded-coded.ensures chroma.ensures c.flag_if-2.result c.flag_if-2.new.contexts c.flag_if-2.ensures in
    ((at_flag.ok _ _ c.in_ok-explicit.was).reads, omega (arith, chroma_few a.p.luma chroma.result chroma.ensures), c.requires.3)

pub returns-in_err-dir : goal.returns-in_err-dir
returns-in_err-dir c =
    let a = c.args in
    let chroma = c.in_chroma-chroma in
    let at_skip =
    read_skip a.p a.list a.bytes.now a.x a.contexts.now c.requires.0 c.skip_coded.result chroma.result c.skip_coded.ensures chroma.ensures
    c.flag_if.result c.flag_if.new.contexts c.flag_if.ensures in
    let skip = eqb c.in_ok-skip.skip.value 1 in
    let at_flag =
    read_flag a.p a.list a.bytes.now a.x a.contexts.now skip c.in_ok-skip.skip.next c.flag_if.new.contexts (at_skip.ok _ _ c.in_ok-skip.was) c.rdpcm_coded-coded.result chroma.result
    c.rdpcm_coded-coded.ensures chroma.ensures c.flag_if-2.result c.flag_if-2.new.contexts c.flag_if-2.ensures in
    let flag = eqb c.in_ok-explicit.explicit.value 1 in
    let at_dir =
    read_dir a.p a.list a.bytes.now a.x a.contexts.now skip flag c.in_ok-explicit.explicit.next c.flag_if-2.new.contexts (at_flag.ok _ _ c.in_ok-explicit.was) chroma.result chroma.ensures
    c.flag_if-3.result c.flag_if-3.new.contexts c.flag_if-3.ensures in
    rw (passed_on c.from_residual-in_err-dir.result _ c.from_residual-in_err-dir.ensures.1) (at_dir.no _ c.in_err-dir.was)

pub last_prefix-requires : goal.last_prefix-requires
last_prefix-requires c =
    let a = c.args in
    let chroma = c.in_chroma-chroma in
    let at_skip =
    read_skip a.p a.list a.bytes.now a.x a.contexts.now c.requires.0 c.skip_coded.result chroma.result c.skip_coded.ensures chroma.ensures
    c.flag_if.result c.flag_if.new.contexts c.flag_if.ensures in
    let skip = eqb c.in_ok-skip.skip.value 1 in
    let at_flag =
    read_flag a.p a.list a.bytes.now a.x a.contexts.now skip c.in_ok-skip.skip.next c.flag_if.new.contexts (at_skip.ok _ _ c.in_ok-skip.was) c.rdpcm_coded-coded.result chroma.result
    c.rdpcm_coded-coded.ensures chroma.ensures c.flag_if-2.result c.flag_if-2.new.contexts c.flag_if-2.ensures in
    let flag = eqb c.in_ok-explicit.explicit.value 1 in
    let at_dir =
    read_dir a.p a.list a.bytes.now a.x a.contexts.now skip flag c.in_ok-explicit.explicit.next c.flag_if-2.new.contexts (at_flag.ok _ _ c.in_ok-explicit.was) chroma.result chroma.ensures
    c.flag_if-3.result c.flag_if-3.new.contexts c.flag_if-3.ensures in
    ((at_dir.ok _ _ c.in_ok-dir.was).reads, omega arith, c.requires.1, c.requires.2, c.requires.3)

pub returns-in_err-gx : goal.returns-in_err-gx
returns-in_err-gx c =
    let a = c.args in
    let chroma = c.in_chroma-chroma in
    let at_skip =
    read_skip a.p a.list a.bytes.now a.x a.contexts.now c.requires.0 c.skip_coded.result chroma.result c.skip_coded.ensures chroma.ensures
    c.flag_if.result c.flag_if.new.contexts c.flag_if.ensures in
    let skip = eqb c.in_ok-skip.skip.value 1 in
    let at_flag =
    read_flag a.p a.list a.bytes.now a.x a.contexts.now skip c.in_ok-skip.skip.next c.flag_if.new.contexts (at_skip.ok _ _ c.in_ok-skip.was) c.rdpcm_coded-coded.result chroma.result
    c.rdpcm_coded-coded.ensures chroma.ensures c.flag_if-2.result c.flag_if-2.new.contexts c.flag_if-2.ensures in
    let flag = eqb c.in_ok-explicit.explicit.value 1 in
    let at_dir =
    read_dir a.p a.list a.bytes.now a.x a.contexts.now skip flag c.in_ok-explicit.explicit.next c.flag_if-2.new.contexts (at_flag.ok _ _ c.in_ok-explicit.was) chroma.result chroma.ensures
    c.flag_if-3.result c.flag_if-3.new.contexts c.flag_if-3.ensures in
    let dir = eqb c.in_ok-dir.dir.value 1 in
    let at_group_x =
    read_group_x a.p a.list a.bytes.now a.x a.contexts.now skip flag dir c.in_ok-dir.dir.next c.flag_if-3.new.contexts (at_dir.ok _ _ c.in_ok-dir.was)
    c.last_prefix.result c.last_prefix.new.contexts c.last_prefix.ensures in
    rw (passed_on c.from_residual-in_err-gx.result _ c.from_residual-in_err-gx.ensures.1) (at_group_x.no _ c.in_err-gx.was)

pub last_prefix-requires-2 : goal.last_prefix-requires-2
last_prefix-requires-2 c =
    let a = c.args in
    let chroma = c.in_chroma-chroma in
    let at_skip =
    read_skip a.p a.list a.bytes.now a.x a.contexts.now c.requires.0 c.skip_coded.result chroma.result c.skip_coded.ensures chroma.ensures
    c.flag_if.result c.flag_if.new.contexts c.flag_if.ensures in
    let skip = eqb c.in_ok-skip.skip.value 1 in
    let at_flag =
    read_flag a.p a.list a.bytes.now a.x a.contexts.now skip c.in_ok-skip.skip.next c.flag_if.new.contexts (at_skip.ok _ _ c.in_ok-skip.was) c.rdpcm_coded-coded.result chroma.result
    c.rdpcm_coded-coded.ensures chroma.ensures c.flag_if-2.result c.flag_if-2.new.contexts c.flag_if-2.ensures in
    let flag = eqb c.in_ok-explicit.explicit.value 1 in
    let at_dir =
    read_dir a.p a.list a.bytes.now a.x a.contexts.now skip flag c.in_ok-explicit.explicit.next c.flag_if-2.new.contexts (at_flag.ok _ _ c.in_ok-explicit.was) chroma.result chroma.ensures
    c.flag_if-3.result c.flag_if-3.new.contexts c.flag_if-3.ensures in
    let dir = eqb c.in_ok-dir.dir.value 1 in
    let at_group_x =
    read_group_x a.p a.list a.bytes.now a.x a.contexts.now skip flag dir c.in_ok-dir.dir.next c.flag_if-3.new.contexts (at_dir.ok _ _ c.in_ok-dir.was)
    c.last_prefix.result c.last_prefix.new.contexts c.last_prefix.ensures in
    ((at_group_x.ok _ _ c.in_ok-gx.was).reads, omega arith, c.requires.1, c.requires.2, c.requires.3)

pub returns-in_err-gy : goal.returns-in_err-gy
returns-in_err-gy c =
    let a = c.args in
    let chroma = c.in_chroma-chroma in
    let at_skip =
    read_skip a.p a.list a.bytes.now a.x a.contexts.now c.requires.0 c.skip_coded.result chroma.result c.skip_coded.ensures chroma.ensures
    c.flag_if.result c.flag_if.new.contexts c.flag_if.ensures in
    let skip = eqb c.in_ok-skip.skip.value 1 in
    let at_flag =
    read_flag a.p a.list a.bytes.now a.x a.contexts.now skip c.in_ok-skip.skip.next c.flag_if.new.contexts (at_skip.ok _ _ c.in_ok-skip.was) c.rdpcm_coded-coded.result chroma.result
    c.rdpcm_coded-coded.ensures chroma.ensures c.flag_if-2.result c.flag_if-2.new.contexts c.flag_if-2.ensures in
    let flag = eqb c.in_ok-explicit.explicit.value 1 in
    let at_dir =
    read_dir a.p a.list a.bytes.now a.x a.contexts.now skip flag c.in_ok-explicit.explicit.next c.flag_if-2.new.contexts (at_flag.ok _ _ c.in_ok-explicit.was) chroma.result chroma.ensures
    c.flag_if-3.result c.flag_if-3.new.contexts c.flag_if-3.ensures in
    let dir = eqb c.in_ok-dir.dir.value 1 in
    let at_group_x =
    read_group_x a.p a.list a.bytes.now a.x a.contexts.now skip flag dir c.in_ok-dir.dir.next c.flag_if-3.new.contexts (at_dir.ok _ _ c.in_ok-dir.was)
    c.last_prefix.result c.last_prefix.new.contexts c.last_prefix.ensures in
    let gx = c.in_ok-gx.gx.value in
    let at_group_y =
    read_group_y a.p a.list a.bytes.now a.x a.contexts.now skip flag dir gx c.in_ok-gx.gx.next c.last_prefix.new.contexts (at_group_x.ok _ _ c.in_ok-gx.was)
    c.last_prefix-2.result c.last_prefix-2.new.contexts c.last_prefix-2.ensures in
    rw (passed_on c.from_residual-in_err-gy.result _ c.from_residual-in_err-gy.ensures.1) (at_group_y.no _ c.in_err-gy.was)

pub decode_bypass_bits_if_any-requires : goal.decode_bypass_bits_if_any-requires
decode_bypass_bits_if_any-requires c =
    let a = c.args in
    let chroma = c.in_chroma-chroma in
    let at_skip =
    read_skip a.p a.list a.bytes.now a.x a.contexts.now c.requires.0 c.skip_coded.result chroma.result c.skip_coded.ensures chroma.ensures
    c.flag_if.result c.flag_if.new.contexts c.flag_if.ensures in
    let skip = eqb c.in_ok-skip.skip.value 1 in
    let at_flag =
    read_flag a.p a.list a.bytes.now a.x a.contexts.now skip c.in_ok-skip.skip.next c.flag_if.new.contexts (at_skip.ok _ _ c.in_ok-skip.was) c.rdpcm_coded-coded.result chroma.result
    c.rdpcm_coded-coded.ensures chroma.ensures c.flag_if-2.result c.flag_if-2.new.contexts c.flag_if-2.ensures in
    let flag = eqb c.in_ok-explicit.explicit.value 1 in
    let at_dir =
    read_dir a.p a.list a.bytes.now a.x a.contexts.now skip flag c.in_ok-explicit.explicit.next c.flag_if-2.new.contexts (at_flag.ok _ _ c.in_ok-explicit.was) chroma.result chroma.ensures
    c.flag_if-3.result c.flag_if-3.new.contexts c.flag_if-3.ensures in
    let dir = eqb c.in_ok-dir.dir.value 1 in
    let at_group_x =
    read_group_x a.p a.list a.bytes.now a.x a.contexts.now skip flag dir c.in_ok-dir.dir.next c.flag_if-3.new.contexts (at_dir.ok _ _ c.in_ok-dir.was)
    c.last_prefix.result c.last_prefix.new.contexts c.last_prefix.ensures in
    let gx = c.in_ok-gx.gx.value in
    let at_group_y =
    read_group_y a.p a.list a.bytes.now a.x a.contexts.now skip flag dir gx c.in_ok-gx.gx.next c.last_prefix.new.contexts (at_group_x.ok _ _ c.in_ok-gx.was)
    c.last_prefix-2.result c.last_prefix-2.new.contexts c.last_prefix-2.ensures in
    let few : c.in_ok-gx.gx.value ≤ 9 =
    group_few a.list a.bytes.now 0 a.p.luma a.p.log2 c.in_ok-dir.dir.next c.flag_if-3.new.contexts c.last_prefix.result c.last_prefix.new.contexts
    c.last_prefix.ensures c.requires.1 c.requires.2 _ _ c.in_ok-gx.was in
    ((at_group_y.ok _ _ c.in_ok-gy.was).reads.0, omega (arith, few, c.suffix_bits.ensures))

pub returns-in_err-sx : goal.returns-in_err-sx
returns-in_err-sx c =
    let a = c.args in
    let chroma = c.in_chroma-chroma in
    let at_skip =
    read_skip a.p a.list a.bytes.now a.x a.contexts.now c.requires.0 c.skip_coded.result chroma.result c.skip_coded.ensures chroma.ensures
    c.flag_if.result c.flag_if.new.contexts c.flag_if.ensures in
    let skip = eqb c.in_ok-skip.skip.value 1 in
    let at_flag =
    read_flag a.p a.list a.bytes.now a.x a.contexts.now skip c.in_ok-skip.skip.next c.flag_if.new.contexts (at_skip.ok _ _ c.in_ok-skip.was) c.rdpcm_coded-coded.result chroma.result
    c.rdpcm_coded-coded.ensures chroma.ensures c.flag_if-2.result c.flag_if-2.new.contexts c.flag_if-2.ensures in
    let flag = eqb c.in_ok-explicit.explicit.value 1 in
    let at_dir =
    read_dir a.p a.list a.bytes.now a.x a.contexts.now skip flag c.in_ok-explicit.explicit.next c.flag_if-2.new.contexts (at_flag.ok _ _ c.in_ok-explicit.was) chroma.result chroma.ensures
    c.flag_if-3.result c.flag_if-3.new.contexts c.flag_if-3.ensures in
    let dir = eqb c.in_ok-dir.dir.value 1 in
    let at_group_x =
    read_group_x a.p a.list a.bytes.now a.x a.contexts.now skip flag dir c.in_ok-dir.dir.next c.flag_if-3.new.contexts (at_dir.ok _ _ c.in_ok-dir.was)
    c.last_prefix.result c.last_prefix.new.contexts c.last_prefix.ensures in
    let gx = c.in_ok-gx.gx.value in
    let at_group_y =
    read_group_y a.p a.list a.bytes.now a.x a.contexts.now skip flag dir gx c.in_ok-gx.gx.next c.last_prefix.new.contexts (at_group_x.ok _ _ c.in_ok-gx.was)
    c.last_prefix-2.result c.last_prefix-2.new.contexts c.last_prefix-2.ensures in
    let gy = c.in_ok-gy.gy.value in
    let at_suffix_x =
    read_suffix_x a.p a.list a.bytes.now a.x a.contexts.now skip flag dir gx gy c.in_ok-gy.gy.next c.last_prefix-2.new.contexts (at_group_y.ok _ _ c.in_ok-gy.was)
    c.suffix_bits.result c.suffix_bits.ensures c.decode_bypass_bits_if_any.result c.decode_bypass_bits_if_any.ensures in
    rw (passed_on c.from_residual-in_err-sx.result _ c.from_residual-in_err-sx.ensures.1) (at_suffix_x.no _ c.in_err-sx.was)

pub decode_bypass_bits_if_any-requires-2 : goal.decode_bypass_bits_if_any-requires-2
decode_bypass_bits_if_any-requires-2 c =
    let a = c.args in
    let chroma = c.in_chroma-chroma in
    let at_skip =
    read_skip a.p a.list a.bytes.now a.x a.contexts.now c.requires.0 c.skip_coded.result chroma.result c.skip_coded.ensures chroma.ensures
    c.flag_if.result c.flag_if.new.contexts c.flag_if.ensures in
    let skip = eqb c.in_ok-skip.skip.value 1 in
    let at_flag =
    read_flag a.p a.list a.bytes.now a.x a.contexts.now skip c.in_ok-skip.skip.next c.flag_if.new.contexts (at_skip.ok _ _ c.in_ok-skip.was) c.rdpcm_coded-coded.result chroma.result
    c.rdpcm_coded-coded.ensures chroma.ensures c.flag_if-2.result c.flag_if-2.new.contexts c.flag_if-2.ensures in
    let flag = eqb c.in_ok-explicit.explicit.value 1 in
    let at_dir =
    read_dir a.p a.list a.bytes.now a.x a.contexts.now skip flag c.in_ok-explicit.explicit.next c.flag_if-2.new.contexts (at_flag.ok _ _ c.in_ok-explicit.was) chroma.result chroma.ensures
    c.flag_if-3.result c.flag_if-3.new.contexts c.flag_if-3.ensures in
    let dir = eqb c.in_ok-dir.dir.value 1 in
    let at_group_x =
    read_group_x a.p a.list a.bytes.now a.x a.contexts.now skip flag dir c.in_ok-dir.dir.next c.flag_if-3.new.contexts (at_dir.ok _ _ c.in_ok-dir.was)
    c.last_prefix.result c.last_prefix.new.contexts c.last_prefix.ensures in
    let gx = c.in_ok-gx.gx.value in
    let at_group_y =
    read_group_y a.p a.list a.bytes.now a.x a.contexts.now skip flag dir gx c.in_ok-gx.gx.next c.last_prefix.new.contexts (at_group_x.ok _ _ c.in_ok-gx.was)
    c.last_prefix-2.result c.last_prefix-2.new.contexts c.last_prefix-2.ensures in
    let gy = c.in_ok-gy.gy.value in
    let at_suffix_x =
    read_suffix_x a.p a.list a.bytes.now a.x a.contexts.now skip flag dir gx gy c.in_ok-gy.gy.next c.last_prefix-2.new.contexts (at_group_y.ok _ _ c.in_ok-gy.was)
    c.suffix_bits.result c.suffix_bits.ensures c.decode_bypass_bits_if_any.result c.decode_bypass_bits_if_any.ensures in
    let few : c.in_ok-gy.gy.value ≤ 9 =
    group_few a.list a.bytes.now 18 a.p.luma a.p.log2 c.in_ok-gx.gx.next c.last_prefix.new.contexts c.last_prefix-2.result c.last_prefix-2.new.contexts
    c.last_prefix-2.ensures c.requires.1 c.requires.2 _ _ c.in_ok-gy.was in
    ((at_suffix_x.ok _ _ c.in_ok-sx.was).reads.0, omega (arith, few, c.suffix_bits-2.ensures))

pub returns-in_err-sy : goal.returns-in_err-sy
returns-in_err-sy c =
    let a = c.args in
    let chroma = c.in_chroma-chroma in
    let at_skip =
    read_skip a.p a.list a.bytes.now a.x a.contexts.now c.requires.0 c.skip_coded.result chroma.result c.skip_coded.ensures chroma.ensures
    c.flag_if.result c.flag_if.new.contexts c.flag_if.ensures in
    let skip = eqb c.in_ok-skip.skip.value 1 in
    let at_flag =
    read_flag a.p a.list a.bytes.now a.x a.contexts.now skip c.in_ok-skip.skip.next c.flag_if.new.contexts (at_skip.ok _ _ c.in_ok-skip.was) c.rdpcm_coded-coded.result chroma.result
    c.rdpcm_coded-coded.ensures chroma.ensures c.flag_if-2.result c.flag_if-2.new.contexts c.flag_if-2.ensures in
    let flag = eqb c.in_ok-explicit.explicit.value 1 in
    let at_dir =
    read_dir a.p a.list a.bytes.now a.x a.contexts.now skip flag c.in_ok-explicit.explicit.next c.flag_if-2.new.contexts (at_flag.ok _ _ c.in_ok-explicit.was) chroma.result chroma.ensures
    c.flag_if-3.result c.flag_if-3.new.contexts c.flag_if-3.ensures in
    let dir = eqb c.in_ok-dir.dir.value 1 in
    let at_group_x =
    read_group_x a.p a.list a.bytes.now a.x a.contexts.now skip flag dir c.in_ok-dir.dir.next c.flag_if-3.new.contexts (at_dir.ok _ _ c.in_ok-dir.was)
    c.last_prefix.result c.last_prefix.new.contexts c.last_prefix.ensures in
    let gx = c.in_ok-gx.gx.value in
    let at_group_y =
    read_group_y a.p a.list a.bytes.now a.x a.contexts.now skip flag dir gx c.in_ok-gx.gx.next c.last_prefix.new.contexts (at_group_x.ok _ _ c.in_ok-gx.was)
    c.last_prefix-2.result c.last_prefix-2.new.contexts c.last_prefix-2.ensures in
    let gy = c.in_ok-gy.gy.value in
    let at_suffix_x =
    read_suffix_x a.p a.list a.bytes.now a.x a.contexts.now skip flag dir gx gy c.in_ok-gy.gy.next c.last_prefix-2.new.contexts (at_group_y.ok _ _ c.in_ok-gy.was)
    c.suffix_bits.result c.suffix_bits.ensures c.decode_bypass_bits_if_any.result c.decode_bypass_bits_if_any.ensures in
    let sx = c.in_ok-sx.sx.value in
    let at_suffix_y =
    read_suffix_y a.p a.list a.bytes.now a.x a.contexts.now skip flag dir gx gy sx c.in_ok-sx.sx.next c.last_prefix-2.new.contexts (at_suffix_x.ok _ _ c.in_ok-sx.was)
    c.suffix_bits-2.result c.suffix_bits-2.ensures c.decode_bypass_bits_if_any-2.result c.decode_bypass_bits_if_any-2.ensures in
    rw (passed_on c.from_residual-in_err-sy.result _ c.from_residual-in_err-sy.ensures.1) (at_suffix_y.no _ c.in_err-sy.was)

pub least-requires : goal.least-requires
least-requires c =
    let a = c.args in
    group_few a.list a.bytes.now 0 a.p.luma a.p.log2 c.in_ok-dir.dir.next c.flag_if-3.new.contexts c.last_prefix.result c.last_prefix.new.contexts
    c.last_prefix.ensures c.requires.1 c.requires.2 _ _ c.in_ok-gx.was

pub overflow_add-least : goal.overflow_add-least
overflow_add-least c =
    let a = c.args in
    let chroma = c.in_chroma-chroma in
    let at_skip =
    read_skip a.p a.list a.bytes.now a.x a.contexts.now c.requires.0 c.skip_coded.result chroma.result c.skip_coded.ensures chroma.ensures
    c.flag_if.result c.flag_if.new.contexts c.flag_if.ensures in
    let skip = eqb c.in_ok-skip.skip.value 1 in
    let at_flag =
    read_flag a.p a.list a.bytes.now a.x a.contexts.now skip c.in_ok-skip.skip.next c.flag_if.new.contexts (at_skip.ok _ _ c.in_ok-skip.was) c.rdpcm_coded-coded.result chroma.result
    c.rdpcm_coded-coded.ensures chroma.ensures c.flag_if-2.result c.flag_if-2.new.contexts c.flag_if-2.ensures in
    let flag = eqb c.in_ok-explicit.explicit.value 1 in
    let at_dir =
    read_dir a.p a.list a.bytes.now a.x a.contexts.now skip flag c.in_ok-explicit.explicit.next c.flag_if-2.new.contexts (at_flag.ok _ _ c.in_ok-explicit.was) chroma.result chroma.ensures
    c.flag_if-3.result c.flag_if-3.new.contexts c.flag_if-3.ensures in
    let dir = eqb c.in_ok-dir.dir.value 1 in
    let at_group_x =
    read_group_x a.p a.list a.bytes.now a.x a.contexts.now skip flag dir c.in_ok-dir.dir.next c.flag_if-3.new.contexts (at_dir.ok _ _ c.in_ok-dir.was)
    c.last_prefix.result c.last_prefix.new.contexts c.last_prefix.ensures in
    let gx = c.in_ok-gx.gx.value in
    let at_group_y =
    read_group_y a.p a.list a.bytes.now a.x a.contexts.now skip flag dir gx c.in_ok-gx.gx.next c.last_prefix.new.contexts (at_group_x.ok _ _ c.in_ok-gx.was)
    c.last_prefix-2.result c.last_prefix-2.new.contexts c.last_prefix-2.ensures in
    let few : c.in_ok-gx.gx.value ≤ 9 =
    group_few a.list a.bytes.now 0 a.p.luma a.p.log2 c.in_ok-dir.dir.next c.flag_if-3.new.contexts c.last_prefix.result c.last_prefix.new.contexts
    c.last_prefix.ensures c.requires.1 c.requires.2 _ _ c.in_ok-gx.was in
    let h = at_group_y.ok _ _ c.in_ok-gy.was in
    omega (
      arith,
      c.least.ensures,
      least_few _ few,
      suffix_few a.list a.bytes.now c.suffix_bits.result gx c.in_ok-gy.gy.next c.decode_bypass_bits_if_any.result h.reads.0
          few c.suffix_bits.ensures c.decode_bypass_bits_if_any.ensures _ _ c.in_ok-sx.was,
    )

pub least-requires-2 : goal.least-requires-2
least-requires-2 c =
    let a = c.args in
    group_few a.list a.bytes.now 18 a.p.luma a.p.log2 c.in_ok-gx.gx.next c.last_prefix.new.contexts c.last_prefix-2.result c.last_prefix-2.new.contexts
    c.last_prefix-2.ensures c.requires.1 c.requires.2 _ _ c.in_ok-gy.was

pub overflow_add-least-2 : goal.overflow_add-least-2
overflow_add-least-2 c =
    let a = c.args in
    let chroma = c.in_chroma-chroma in
    let at_skip =
    read_skip a.p a.list a.bytes.now a.x a.contexts.now c.requires.0 c.skip_coded.result chroma.result c.skip_coded.ensures chroma.ensures
    c.flag_if.result c.flag_if.new.contexts c.flag_if.ensures in
    let skip = eqb c.in_ok-skip.skip.value 1 in
    let at_flag =
    read_flag a.p a.list a.bytes.now a.x a.contexts.now skip c.in_ok-skip.skip.next c.flag_if.new.contexts (at_skip.ok _ _ c.in_ok-skip.was) c.rdpcm_coded-coded.result chroma.result
    c.rdpcm_coded-coded.ensures chroma.ensures c.flag_if-2.result c.flag_if-2.new.contexts c.flag_if-2.ensures in
    let flag = eqb c.in_ok-explicit.explicit.value 1 in
    let at_dir =
    read_dir a.p a.list a.bytes.now a.x a.contexts.now skip flag c.in_ok-explicit.explicit.next c.flag_if-2.new.contexts (at_flag.ok _ _ c.in_ok-explicit.was) chroma.result chroma.ensures
    c.flag_if-3.result c.flag_if-3.new.contexts c.flag_if-3.ensures in
    let dir = eqb c.in_ok-dir.dir.value 1 in
    let at_group_x =
    read_group_x a.p a.list a.bytes.now a.x a.contexts.now skip flag dir c.in_ok-dir.dir.next c.flag_if-3.new.contexts (at_dir.ok _ _ c.in_ok-dir.was)
    c.last_prefix.result c.last_prefix.new.contexts c.last_prefix.ensures in
    let gx = c.in_ok-gx.gx.value in
    let at_group_y =
    read_group_y a.p a.list a.bytes.now a.x a.contexts.now skip flag dir gx c.in_ok-gx.gx.next c.last_prefix.new.contexts (at_group_x.ok _ _ c.in_ok-gx.was)
    c.last_prefix-2.result c.last_prefix-2.new.contexts c.last_prefix-2.ensures in
    let gy = c.in_ok-gy.gy.value in
    let at_suffix_x =
    read_suffix_x a.p a.list a.bytes.now a.x a.contexts.now skip flag dir gx gy c.in_ok-gy.gy.next c.last_prefix-2.new.contexts (at_group_y.ok _ _ c.in_ok-gy.was)
    c.suffix_bits.result c.suffix_bits.ensures c.decode_bypass_bits_if_any.result c.decode_bypass_bits_if_any.ensures in
    let few : c.in_ok-gy.gy.value ≤ 9 =
    group_few a.list a.bytes.now 18 a.p.luma a.p.log2 c.in_ok-gx.gx.next c.last_prefix.new.contexts c.last_prefix-2.result c.last_prefix-2.new.contexts
    c.last_prefix-2.ensures c.requires.1 c.requires.2 _ _ c.in_ok-gy.was in
    let h = at_suffix_x.ok _ _ c.in_ok-sx.was in
    omega (
      arith,
      c.least-2.ensures,
      least_few _ few,
      suffix_few a.list a.bytes.now c.suffix_bits-2.result gy c.in_ok-sx.sx.next c.decode_bypass_bits_if_any-2.result h.reads.0
          few c.suffix_bits-2.ensures c.decode_bypass_bits_if_any-2.ensures _ _ c.in_ok-sy.was,
    )

pub returns : goal.returns
returns c =
    let a = c.args in
    let chroma = c.in_chroma-chroma in
    let at_skip =
    read_skip a.p a.list a.bytes.now a.x a.contexts.now c.requires.0 c.skip_coded.result chroma.result c.skip_coded.ensures chroma.ensures
    c.flag_if.result c.flag_if.new.contexts c.flag_if.ensures in
    let skip = eqb c.in_ok-skip.skip.value 1 in
    let at_flag =
    read_flag a.p a.list a.bytes.now a.x a.contexts.now skip c.in_ok-skip.skip.next c.flag_if.new.contexts (at_skip.ok _ _ c.in_ok-skip.was) c.rdpcm_coded-coded.result chroma.result
    c.rdpcm_coded-coded.ensures chroma.ensures c.flag_if-2.result c.flag_if-2.new.contexts c.flag_if-2.ensures in
    let flag = eqb c.in_ok-explicit.explicit.value 1 in
    let at_dir =
    read_dir a.p a.list a.bytes.now a.x a.contexts.now skip flag c.in_ok-explicit.explicit.next c.flag_if-2.new.contexts (at_flag.ok _ _ c.in_ok-explicit.was) chroma.result chroma.ensures
    c.flag_if-3.result c.flag_if-3.new.contexts c.flag_if-3.ensures in
    let dir = eqb c.in_ok-dir.dir.value 1 in
    let at_group_x =
    read_group_x a.p a.list a.bytes.now a.x a.contexts.now skip flag dir c.in_ok-dir.dir.next c.flag_if-3.new.contexts (at_dir.ok _ _ c.in_ok-dir.was)
    c.last_prefix.result c.last_prefix.new.contexts c.last_prefix.ensures in
    let gx = c.in_ok-gx.gx.value in
    let at_group_y =
    read_group_y a.p a.list a.bytes.now a.x a.contexts.now skip flag dir gx c.in_ok-gx.gx.next c.last_prefix.new.contexts (at_group_x.ok _ _ c.in_ok-gx.was)
    c.last_prefix-2.result c.last_prefix-2.new.contexts c.last_prefix-2.ensures in
    let gy = c.in_ok-gy.gy.value in
    let at_suffix_x =
    read_suffix_x a.p a.list a.bytes.now a.x a.contexts.now skip flag dir gx gy c.in_ok-gy.gy.next c.last_prefix-2.new.contexts (at_group_y.ok _ _ c.in_ok-gy.was)
    c.suffix_bits.result c.suffix_bits.ensures c.decode_bypass_bits_if_any.result c.decode_bypass_bits_if_any.ensures in
    let sx = c.in_ok-sx.sx.value in
    let at_suffix_y =
    read_suffix_y a.p a.list a.bytes.now a.x a.contexts.now skip flag dir gx gy sx c.in_ok-sx.sx.next c.last_prefix-2.new.contexts (at_suffix_x.ok _ _ c.in_ok-sx.was)
    c.suffix_bits-2.result c.suffix_bits-2.ensures c.decode_bypass_bits_if_any-2.result c.decode_bypass_bits_if_any-2.ensures in
    head_ok a.p a.list a.bytes.now a.x a.contexts.now skip flag dir gx gy sx c.in_ok-sy.sy.value c.in_ok-sy.sy.next c.last_prefix-2.new.contexts
    (at_suffix_y.ok _ _ c.in_ok-sy.was) c.rdpcm_of.result c.least.result c.least-2.result _ c.rdpcm_of.ensures
    c.least.ensures c.least-2.ensures c.placed-head.ensures
