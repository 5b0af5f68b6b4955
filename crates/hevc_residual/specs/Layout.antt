-- Document 01's numbers of contexts: where those of each syntax element begin.
use Rattle.std.specs.Prelude.{ℕ, ◌+◌, Bool, cond}

abbrev pub at_last_x : ℕ  -- last_sig_coeff_x_prefix
at_last_x = 0

abbrev pub at_last_y : ℕ  -- last_sig_coeff_y_prefix
at_last_y = 18

abbrev pub at_sig_coeff : ℕ  -- sig_coeff_flag
at_sig_coeff = 36

abbrev pub at_coded_sub_block : ℕ  -- coded_sub_block_flag
at_coded_sub_block = 80

abbrev pub at_greater1 : ℕ  -- coeff_abs_level_greater1_flag
at_greater1 = 84

abbrev pub at_greater2 : ℕ  -- coeff_abs_level_greater2_flag
at_greater2 = 108

abbrev pub at_skip : ℕ  -- transform_skip_flag
at_skip = 114

abbrev pub at_rdpcm_flag : ℕ  -- explicit_rdpcm_flag
at_rdpcm_flag = 116

abbrev pub at_rdpcm_dir : ℕ  -- explicit_rdpcm_dir_flag
at_rdpcm_dir = 118

-- how many a block has; those of other syntax stand behind them
abbrev pub block_contexts : ℕ
block_contexts = at_rdpcm_dir + 2

-- within them chroma's stand behind luma's: what is added for chroma
abbrev pub in_chroma : Bool → ℕ → ℕ
in_chroma luma n = cond luma 0 n
