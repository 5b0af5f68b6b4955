use native.Mathlib.Omega.{arith}
use mathlib.Core.Path.{refl}
use Rattle.tables.specs.Tables.{lps_at, on_mps, on_lps, range_tab_lps, trans_idx_mps, trans_idx_lps}
use Rattle.decision_rows.specs.Rows.{row_of, at_row, none_below}
use Rattle.decision_rows.proofs.row_of.Goals as goal

-- `row_of` meets its contract: each arm is computed. Assumes nothing.
pub returns-in-0 : goal.returns-in-0
unfolding row_of lps_at on_mps on_lps range_tab_lps trans_idx_mps trans_idx_lps
returns-in-0 c = at_row _ 0 _ c.in-0.is refl

pub returns-in-1 : goal.returns-in-1
unfolding row_of lps_at on_mps on_lps range_tab_lps trans_idx_mps trans_idx_lps
returns-in-1 c = at_row _ 1 _ c.in-1.is refl

pub returns-in-2 : goal.returns-in-2
unfolding row_of lps_at on_mps on_lps range_tab_lps trans_idx_mps trans_idx_lps
returns-in-2 c = at_row _ 2 _ c.in-2.is refl

pub returns-in-3 : goal.returns-in-3
unfolding row_of lps_at on_mps on_lps range_tab_lps trans_idx_mps trans_idx_lps
returns-in-3 c = at_row _ 3 _ c.in-3.is refl

pub returns-in-4 : goal.returns-in-4
unfolding row_of lps_at on_mps on_lps range_tab_lps trans_idx_mps trans_idx_lps
returns-in-4 c = at_row _ 4 _ c.in-4.is refl

pub returns-in-5 : goal.returns-in-5
unfolding row_of lps_at on_mps on_lps range_tab_lps trans_idx_mps trans_idx_lps
returns-in-5 c = at_row _ 5 _ c.in-5.is refl

pub returns-in-6 : goal.returns-in-6
unfolding row_of lps_at on_mps on_lps range_tab_lps trans_idx_mps trans_idx_lps
returns-in-6 c = at_row _ 6 _ c.in-6.is refl

pub returns-in-7 : goal.returns-in-7
unfolding row_of lps_at on_mps on_lps range_tab_lps trans_idx_mps trans_idx_lps
returns-in-7 c = at_row _ 7 _ c.in-7.is refl

pub returns-in-8 : goal.returns-in-8
unfolding row_of lps_at on_mps on_lps range_tab_lps trans_idx_mps trans_idx_lps
returns-in-8 c = at_row _ 8 _ c.in-8.is refl

pub returns-in-9 : goal.returns-in-9
unfolding row_of lps_at on_mps on_lps range_tab_lps trans_idx_mps trans_idx_lps
returns-in-9 c = at_row _ 9 _ c.in-9.is refl

pub returns-in-10 : goal.returns-in-10
unfolding row_of lps_at on_mps on_lps range_tab_lps trans_idx_mps trans_idx_lps
returns-in-10 c = at_row _ 10 _ c.in-10.is refl

pub returns-in-11 : goal.returns-in-11
unfolding row_of lps_at on_mps on_lps range_tab_lps trans_idx_mps trans_idx_lps
returns-in-11 c = at_row _ 11 _ c.in-11.is refl

pub returns-in-12 : goal.returns-in-12
unfolding row_of lps_at on_mps on_lps range_tab_lps trans_idx_mps trans_idx_lps
returns-in-12 c = at_row _ 12 _ c.in-12.is refl

pub returns-in-13 : goal.returns-in-13
unfolding row_of lps_at on_mps on_lps range_tab_lps trans_idx_mps trans_idx_lps
returns-in-13 c = at_row _ 13 _ c.in-13.is refl

pub returns-in-14 : goal.returns-in-14
unfolding row_of lps_at on_mps on_lps range_tab_lps trans_idx_mps trans_idx_lps
returns-in-14 c = at_row _ 14 _ c.in-14.is refl

pub returns-in-15 : goal.returns-in-15
unfolding row_of lps_at on_mps on_lps range_tab_lps trans_idx_mps trans_idx_lps
returns-in-15 c = at_row _ 15 _ c.in-15.is refl

pub returns-in-16 : goal.returns-in-16
unfolding row_of lps_at on_mps on_lps range_tab_lps trans_idx_mps trans_idx_lps
returns-in-16 c = at_row _ 16 _ c.in-16.is refl

pub returns-in-17 : goal.returns-in-17
unfolding row_of lps_at on_mps on_lps range_tab_lps trans_idx_mps trans_idx_lps
returns-in-17 c = at_row _ 17 _ c.in-17.is refl

pub returns-in-18 : goal.returns-in-18
unfolding row_of lps_at on_mps on_lps range_tab_lps trans_idx_mps trans_idx_lps
returns-in-18 c = at_row _ 18 _ c.in-18.is refl

pub returns-in-19 : goal.returns-in-19
unfolding row_of lps_at on_mps on_lps range_tab_lps trans_idx_mps trans_idx_lps
returns-in-19 c = at_row _ 19 _ c.in-19.is refl

pub returns-in-20 : goal.returns-in-20
unfolding row_of lps_at on_mps on_lps range_tab_lps trans_idx_mps trans_idx_lps
returns-in-20 c = at_row _ 20 _ c.in-20.is refl

pub returns-in-21 : goal.returns-in-21
unfolding row_of lps_at on_mps on_lps range_tab_lps trans_idx_mps trans_idx_lps
returns-in-21 c = at_row _ 21 _ c.in-21.is refl

pub returns-in-22 : goal.returns-in-22
unfolding row_of lps_at on_mps on_lps range_tab_lps trans_idx_mps trans_idx_lps
returns-in-22 c = at_row _ 22 _ c.in-22.is refl

pub returns-in-23 : goal.returns-in-23
unfolding row_of lps_at on_mps on_lps range_tab_lps trans_idx_mps trans_idx_lps
returns-in-23 c = at_row _ 23 _ c.in-23.is refl

pub returns-in-24 : goal.returns-in-24
unfolding row_of lps_at on_mps on_lps range_tab_lps trans_idx_mps trans_idx_lps
returns-in-24 c = at_row _ 24 _ c.in-24.is refl

pub returns-in-25 : goal.returns-in-25
unfolding row_of lps_at on_mps on_lps range_tab_lps trans_idx_mps trans_idx_lps
returns-in-25 c = at_row _ 25 _ c.in-25.is refl

pub returns-in-26 : goal.returns-in-26
unfolding row_of lps_at on_mps on_lps range_tab_lps trans_idx_mps trans_idx_lps
returns-in-26 c = at_row _ 26 _ c.in-26.is refl

pub returns-in-27 : goal.returns-in-27
unfolding row_of lps_at on_mps on_lps range_tab_lps trans_idx_mps trans_idx_lps
returns-in-27 c = at_row _ 27 _ c.in-27.is refl

pub returns-in-28 : goal.returns-in-28
unfolding row_of lps_at on_mps on_lps range_tab_lps trans_idx_mps trans_idx_lps
returns-in-28 c = at_row _ 28 _ c.in-28.is refl

pub returns-in-29 : goal.returns-in-29
unfolding row_of lps_at on_mps on_lps range_tab_lps trans_idx_mps trans_idx_lps
returns-in-29 c = at_row _ 29 _ c.in-29.is refl

pub returns-in-30 : goal.returns-in-30
unfolding row_of lps_at on_mps on_lps range_tab_lps trans_idx_mps trans_idx_lps
returns-in-30 c = at_row _ 30 _ c.in-30.is refl

pub returns-in-31 : goal.returns-in-31
unfolding row_of lps_at on_mps on_lps range_tab_lps trans_idx_mps trans_idx_lps
returns-in-31 c = at_row _ 31 _ c.in-31.is refl

pub returns-in-32 : goal.returns-in-32
unfolding row_of lps_at on_mps on_lps range_tab_lps trans_idx_mps trans_idx_lps
returns-in-32 c = at_row _ 32 _ c.in-32.is refl

pub returns-in-33 : goal.returns-in-33
unfolding row_of lps_at on_mps on_lps range_tab_lps trans_idx_mps trans_idx_lps
returns-in-33 c = at_row _ 33 _ c.in-33.is refl

pub returns-in-34 : goal.returns-in-34
unfolding row_of lps_at on_mps on_lps range_tab_lps trans_idx_mps trans_idx_lps
returns-in-34 c = at_row _ 34 _ c.in-34.is refl

pub returns-in-35 : goal.returns-in-35
unfolding row_of lps_at on_mps on_lps range_tab_lps trans_idx_mps trans_idx_lps
returns-in-35 c = at_row _ 35 _ c.in-35.is refl

pub returns-in-36 : goal.returns-in-36
unfolding row_of lps_at on_mps on_lps range_tab_lps trans_idx_mps trans_idx_lps
returns-in-36 c = at_row _ 36 _ c.in-36.is refl

pub returns-in-37 : goal.returns-in-37
unfolding row_of lps_at on_mps on_lps range_tab_lps trans_idx_mps trans_idx_lps
returns-in-37 c = at_row _ 37 _ c.in-37.is refl

pub returns-in-38 : goal.returns-in-38
unfolding row_of lps_at on_mps on_lps range_tab_lps trans_idx_mps trans_idx_lps
returns-in-38 c = at_row _ 38 _ c.in-38.is refl

pub returns-in-39 : goal.returns-in-39
unfolding row_of lps_at on_mps on_lps range_tab_lps trans_idx_mps trans_idx_lps
returns-in-39 c = at_row _ 39 _ c.in-39.is refl

pub returns-in-40 : goal.returns-in-40
unfolding row_of lps_at on_mps on_lps range_tab_lps trans_idx_mps trans_idx_lps
returns-in-40 c = at_row _ 40 _ c.in-40.is refl

pub returns-in-41 : goal.returns-in-41
unfolding row_of lps_at on_mps on_lps range_tab_lps trans_idx_mps trans_idx_lps
returns-in-41 c = at_row _ 41 _ c.in-41.is refl

pub returns-in-42 : goal.returns-in-42
unfolding row_of lps_at on_mps on_lps range_tab_lps trans_idx_mps trans_idx_lps
returns-in-42 c = at_row _ 42 _ c.in-42.is refl

pub returns-in-43 : goal.returns-in-43
unfolding row_of lps_at on_mps on_lps range_tab_lps trans_idx_mps trans_idx_lps
returns-in-43 c = at_row _ 43 _ c.in-43.is refl

pub returns-in-44 : goal.returns-in-44
unfolding row_of lps_at on_mps on_lps range_tab_lps trans_idx_mps trans_idx_lps
returns-in-44 c = at_row _ 44 _ c.in-44.is refl

pub returns-in-45 : goal.returns-in-45
unfolding row_of lps_at on_mps on_lps range_tab_lps trans_idx_mps trans_idx_lps
returns-in-45 c = at_row _ 45 _ c.in-45.is refl

pub returns-in-46 : goal.returns-in-46
unfolding row_of lps_at on_mps on_lps range_tab_lps trans_idx_mps trans_idx_lps
returns-in-46 c = at_row _ 46 _ c.in-46.is refl

pub returns-in-47 : goal.returns-in-47
unfolding row_of lps_at on_mps on_lps range_tab_lps trans_idx_mps trans_idx_lps
returns-in-47 c = at_row _ 47 _ c.in-47.is refl

pub returns-in-48 : goal.returns-in-48
unfolding row_of lps_at on_mps on_lps range_tab_lps trans_idx_mps trans_idx_lps
returns-in-48 c = at_row _ 48 _ c.in-48.is refl

pub returns-in-49 : goal.returns-in-49
unfolding row_of lps_at on_mps on_lps range_tab_lps trans_idx_mps trans_idx_lps
returns-in-49 c = at_row _ 49 _ c.in-49.is refl

pub returns-in-50 : goal.returns-in-50
unfolding row_of lps_at on_mps on_lps range_tab_lps trans_idx_mps trans_idx_lps
returns-in-50 c = at_row _ 50 _ c.in-50.is refl

pub returns-in-51 : goal.returns-in-51
unfolding row_of lps_at on_mps on_lps range_tab_lps trans_idx_mps trans_idx_lps
returns-in-51 c = at_row _ 51 _ c.in-51.is refl

pub returns-in-52 : goal.returns-in-52
unfolding row_of lps_at on_mps on_lps range_tab_lps trans_idx_mps trans_idx_lps
returns-in-52 c = at_row _ 52 _ c.in-52.is refl

pub returns-in-53 : goal.returns-in-53
unfolding row_of lps_at on_mps on_lps range_tab_lps trans_idx_mps trans_idx_lps
returns-in-53 c = at_row _ 53 _ c.in-53.is refl

pub returns-in-54 : goal.returns-in-54
unfolding row_of lps_at on_mps on_lps range_tab_lps trans_idx_mps trans_idx_lps
returns-in-54 c = at_row _ 54 _ c.in-54.is refl

pub returns-in-55 : goal.returns-in-55
unfolding row_of lps_at on_mps on_lps range_tab_lps trans_idx_mps trans_idx_lps
returns-in-55 c = at_row _ 55 _ c.in-55.is refl

pub returns-in-56 : goal.returns-in-56
unfolding row_of lps_at on_mps on_lps range_tab_lps trans_idx_mps trans_idx_lps
returns-in-56 c = at_row _ 56 _ c.in-56.is refl

pub returns-in-57 : goal.returns-in-57
unfolding row_of lps_at on_mps on_lps range_tab_lps trans_idx_mps trans_idx_lps
returns-in-57 c = at_row _ 57 _ c.in-57.is refl

pub returns-in-58 : goal.returns-in-58
unfolding row_of lps_at on_mps on_lps range_tab_lps trans_idx_mps trans_idx_lps
returns-in-58 c = at_row _ 58 _ c.in-58.is refl

pub returns-in-59 : goal.returns-in-59
unfolding row_of lps_at on_mps on_lps range_tab_lps trans_idx_mps trans_idx_lps
returns-in-59 c = at_row _ 59 _ c.in-59.is refl

pub returns-in-60 : goal.returns-in-60
unfolding row_of lps_at on_mps on_lps range_tab_lps trans_idx_mps trans_idx_lps
returns-in-60 c = at_row _ 60 _ c.in-60.is refl

pub returns-in-61 : goal.returns-in-61
unfolding row_of lps_at on_mps on_lps range_tab_lps trans_idx_mps trans_idx_lps
returns-in-61 c = at_row _ 61 _ c.in-61.is refl

pub returns-in-62 : goal.returns-in-62
unfolding row_of lps_at on_mps on_lps range_tab_lps trans_idx_mps trans_idx_lps
returns-in-62 c = at_row _ 62 _ c.in-62.is refl

pub returns-in-63 : goal.returns-in-63
unfolding row_of lps_at on_mps on_lps range_tab_lps trans_idx_mps trans_idx_lps
returns-in-63 c = at_row _ 63 _ c.in-63.is refl

pub returns-in-64 : goal.returns-in-64
unfolding row_of lps_at on_mps on_lps range_tab_lps trans_idx_mps trans_idx_lps
returns-in-64 c = at_row _ 64 _ c.in-64.is refl

pub returns-in-65 : goal.returns-in-65
unfolding row_of lps_at on_mps on_lps range_tab_lps trans_idx_mps trans_idx_lps
returns-in-65 c = at_row _ 65 _ c.in-65.is refl

pub returns-in-66 : goal.returns-in-66
unfolding row_of lps_at on_mps on_lps range_tab_lps trans_idx_mps trans_idx_lps
returns-in-66 c = at_row _ 66 _ c.in-66.is refl

pub returns-in-67 : goal.returns-in-67
unfolding row_of lps_at on_mps on_lps range_tab_lps trans_idx_mps trans_idx_lps
returns-in-67 c = at_row _ 67 _ c.in-67.is refl

pub returns-in-68 : goal.returns-in-68
unfolding row_of lps_at on_mps on_lps range_tab_lps trans_idx_mps trans_idx_lps
returns-in-68 c = at_row _ 68 _ c.in-68.is refl

pub returns-in-69 : goal.returns-in-69
unfolding row_of lps_at on_mps on_lps range_tab_lps trans_idx_mps trans_idx_lps
returns-in-69 c = at_row _ 69 _ c.in-69.is refl

pub returns-in-70 : goal.returns-in-70
unfolding row_of lps_at on_mps on_lps range_tab_lps trans_idx_mps trans_idx_lps
returns-in-70 c = at_row _ 70 _ c.in-70.is refl

pub returns-in-71 : goal.returns-in-71
unfolding row_of lps_at on_mps on_lps range_tab_lps trans_idx_mps trans_idx_lps
returns-in-71 c = at_row _ 71 _ c.in-71.is refl

pub returns-in-72 : goal.returns-in-72
unfolding row_of lps_at on_mps on_lps range_tab_lps trans_idx_mps trans_idx_lps
returns-in-72 c = at_row _ 72 _ c.in-72.is refl

pub returns-in-73 : goal.returns-in-73
unfolding row_of lps_at on_mps on_lps range_tab_lps trans_idx_mps trans_idx_lps
returns-in-73 c = at_row _ 73 _ c.in-73.is refl

pub returns-in-74 : goal.returns-in-74
unfolding row_of lps_at on_mps on_lps range_tab_lps trans_idx_mps trans_idx_lps
returns-in-74 c = at_row _ 74 _ c.in-74.is refl

pub returns-in-75 : goal.returns-in-75
unfolding row_of lps_at on_mps on_lps range_tab_lps trans_idx_mps trans_idx_lps
returns-in-75 c = at_row _ 75 _ c.in-75.is refl

pub returns-in-76 : goal.returns-in-76
unfolding row_of lps_at on_mps on_lps range_tab_lps trans_idx_mps trans_idx_lps
returns-in-76 c = at_row _ 76 _ c.in-76.is refl

pub returns-in-77 : goal.returns-in-77
unfolding row_of lps_at on_mps on_lps range_tab_lps trans_idx_mps trans_idx_lps
returns-in-77 c = at_row _ 77 _ c.in-77.is refl

pub returns-in-78 : goal.returns-in-78
unfolding row_of lps_at on_mps on_lps range_tab_lps trans_idx_mps trans_idx_lps
returns-in-78 c = at_row _ 78 _ c.in-78.is refl

pub returns-in-79 : goal.returns-in-79
unfolding row_of lps_at on_mps on_lps range_tab_lps trans_idx_mps trans_idx_lps
returns-in-79 c = at_row _ 79 _ c.in-79.is refl

pub returns-in-80 : goal.returns-in-80
unfolding row_of lps_at on_mps on_lps range_tab_lps trans_idx_mps trans_idx_lps
returns-in-80 c = at_row _ 80 _ c.in-80.is refl

pub returns-in-81 : goal.returns-in-81
unfolding row_of lps_at on_mps on_lps range_tab_lps trans_idx_mps trans_idx_lps
returns-in-81 c = at_row _ 81 _ c.in-81.is refl

pub returns-in-82 : goal.returns-in-82
unfolding row_of lps_at on_mps on_lps range_tab_lps trans_idx_mps trans_idx_lps
returns-in-82 c = at_row _ 82 _ c.in-82.is refl

pub returns-in-83 : goal.returns-in-83
unfolding row_of lps_at on_mps on_lps range_tab_lps trans_idx_mps trans_idx_lps
returns-in-83 c = at_row _ 83 _ c.in-83.is refl

pub returns-in-84 : goal.returns-in-84
unfolding row_of lps_at on_mps on_lps range_tab_lps trans_idx_mps trans_idx_lps
returns-in-84 c = at_row _ 84 _ c.in-84.is refl

pub returns-in-85 : goal.returns-in-85
unfolding row_of lps_at on_mps on_lps range_tab_lps trans_idx_mps trans_idx_lps
returns-in-85 c = at_row _ 85 _ c.in-85.is refl

pub returns-in-86 : goal.returns-in-86
unfolding row_of lps_at on_mps on_lps range_tab_lps trans_idx_mps trans_idx_lps
returns-in-86 c = at_row _ 86 _ c.in-86.is refl

pub returns-in-87 : goal.returns-in-87
unfolding row_of lps_at on_mps on_lps range_tab_lps trans_idx_mps trans_idx_lps
returns-in-87 c = at_row _ 87 _ c.in-87.is refl

pub returns-in-88 : goal.returns-in-88
unfolding row_of lps_at on_mps on_lps range_tab_lps trans_idx_mps trans_idx_lps
returns-in-88 c = at_row _ 88 _ c.in-88.is refl

pub returns-in-89 : goal.returns-in-89
unfolding row_of lps_at on_mps on_lps range_tab_lps trans_idx_mps trans_idx_lps
returns-in-89 c = at_row _ 89 _ c.in-89.is refl

pub returns-in-90 : goal.returns-in-90
unfolding row_of lps_at on_mps on_lps range_tab_lps trans_idx_mps trans_idx_lps
returns-in-90 c = at_row _ 90 _ c.in-90.is refl

pub returns-in-91 : goal.returns-in-91
unfolding row_of lps_at on_mps on_lps range_tab_lps trans_idx_mps trans_idx_lps
returns-in-91 c = at_row _ 91 _ c.in-91.is refl

pub returns-in-92 : goal.returns-in-92
unfolding row_of lps_at on_mps on_lps range_tab_lps trans_idx_mps trans_idx_lps
returns-in-92 c = at_row _ 92 _ c.in-92.is refl

pub returns-in-93 : goal.returns-in-93
unfolding row_of lps_at on_mps on_lps range_tab_lps trans_idx_mps trans_idx_lps
returns-in-93 c = at_row _ 93 _ c.in-93.is refl

pub returns-in-94 : goal.returns-in-94
unfolding row_of lps_at on_mps on_lps range_tab_lps trans_idx_mps trans_idx_lps
returns-in-94 c = at_row _ 94 _ c.in-94.is refl

pub returns-in-95 : goal.returns-in-95
unfolding row_of lps_at on_mps on_lps range_tab_lps trans_idx_mps trans_idx_lps
returns-in-95 c = at_row _ 95 _ c.in-95.is refl

pub returns-in-96 : goal.returns-in-96
unfolding row_of lps_at on_mps on_lps range_tab_lps trans_idx_mps trans_idx_lps
returns-in-96 c = at_row _ 96 _ c.in-96.is refl

pub returns-in-97 : goal.returns-in-97
unfolding row_of lps_at on_mps on_lps range_tab_lps trans_idx_mps trans_idx_lps
returns-in-97 c = at_row _ 97 _ c.in-97.is refl

pub returns-in-98 : goal.returns-in-98
unfolding row_of lps_at on_mps on_lps range_tab_lps trans_idx_mps trans_idx_lps
returns-in-98 c = at_row _ 98 _ c.in-98.is refl

pub returns-in-99 : goal.returns-in-99
unfolding row_of lps_at on_mps on_lps range_tab_lps trans_idx_mps trans_idx_lps
returns-in-99 c = at_row _ 99 _ c.in-99.is refl

pub returns-in-100 : goal.returns-in-100
unfolding row_of lps_at on_mps on_lps range_tab_lps trans_idx_mps trans_idx_lps
returns-in-100 c = at_row _ 100 _ c.in-100.is refl

pub returns-in-101 : goal.returns-in-101
unfolding row_of lps_at on_mps on_lps range_tab_lps trans_idx_mps trans_idx_lps
returns-in-101 c = at_row _ 101 _ c.in-101.is refl

pub returns-in-102 : goal.returns-in-102
unfolding row_of lps_at on_mps on_lps range_tab_lps trans_idx_mps trans_idx_lps
returns-in-102 c = at_row _ 102 _ c.in-102.is refl

pub returns-in-103 : goal.returns-in-103
unfolding row_of lps_at on_mps on_lps range_tab_lps trans_idx_mps trans_idx_lps
returns-in-103 c = at_row _ 103 _ c.in-103.is refl

pub returns-in-104 : goal.returns-in-104
unfolding row_of lps_at on_mps on_lps range_tab_lps trans_idx_mps trans_idx_lps
returns-in-104 c = at_row _ 104 _ c.in-104.is refl

pub returns-in-105 : goal.returns-in-105
unfolding row_of lps_at on_mps on_lps range_tab_lps trans_idx_mps trans_idx_lps
returns-in-105 c = at_row _ 105 _ c.in-105.is refl

pub returns-in-106 : goal.returns-in-106
unfolding row_of lps_at on_mps on_lps range_tab_lps trans_idx_mps trans_idx_lps
returns-in-106 c = at_row _ 106 _ c.in-106.is refl

pub returns-in-107 : goal.returns-in-107
unfolding row_of lps_at on_mps on_lps range_tab_lps trans_idx_mps trans_idx_lps
returns-in-107 c = at_row _ 107 _ c.in-107.is refl

pub returns-in-108 : goal.returns-in-108
unfolding row_of lps_at on_mps on_lps range_tab_lps trans_idx_mps trans_idx_lps
returns-in-108 c = at_row _ 108 _ c.in-108.is refl

pub returns-in-109 : goal.returns-in-109
unfolding row_of lps_at on_mps on_lps range_tab_lps trans_idx_mps trans_idx_lps
returns-in-109 c = at_row _ 109 _ c.in-109.is refl

pub returns-in-110 : goal.returns-in-110
unfolding row_of lps_at on_mps on_lps range_tab_lps trans_idx_mps trans_idx_lps
returns-in-110 c = at_row _ 110 _ c.in-110.is refl

pub returns-in-111 : goal.returns-in-111
unfolding row_of lps_at on_mps on_lps range_tab_lps trans_idx_mps trans_idx_lps
returns-in-111 c = at_row _ 111 _ c.in-111.is refl

pub returns-in-112 : goal.returns-in-112
unfolding row_of lps_at on_mps on_lps range_tab_lps trans_idx_mps trans_idx_lps
returns-in-112 c = at_row _ 112 _ c.in-112.is refl

pub returns-in-113 : goal.returns-in-113
unfolding row_of lps_at on_mps on_lps range_tab_lps trans_idx_mps trans_idx_lps
returns-in-113 c = at_row _ 113 _ c.in-113.is refl

pub returns-in-114 : goal.returns-in-114
unfolding row_of lps_at on_mps on_lps range_tab_lps trans_idx_mps trans_idx_lps
returns-in-114 c = at_row _ 114 _ c.in-114.is refl

pub returns-in-115 : goal.returns-in-115
unfolding row_of lps_at on_mps on_lps range_tab_lps trans_idx_mps trans_idx_lps
returns-in-115 c = at_row _ 115 _ c.in-115.is refl

pub returns-in-116 : goal.returns-in-116
unfolding row_of lps_at on_mps on_lps range_tab_lps trans_idx_mps trans_idx_lps
returns-in-116 c = at_row _ 116 _ c.in-116.is refl

pub returns-in-117 : goal.returns-in-117
unfolding row_of lps_at on_mps on_lps range_tab_lps trans_idx_mps trans_idx_lps
returns-in-117 c = at_row _ 117 _ c.in-117.is refl

pub returns-in-118 : goal.returns-in-118
unfolding row_of lps_at on_mps on_lps range_tab_lps trans_idx_mps trans_idx_lps
returns-in-118 c = at_row _ 118 _ c.in-118.is refl

pub returns-in-119 : goal.returns-in-119
unfolding row_of lps_at on_mps on_lps range_tab_lps trans_idx_mps trans_idx_lps
returns-in-119 c = at_row _ 119 _ c.in-119.is refl

pub returns-in-120 : goal.returns-in-120
unfolding row_of lps_at on_mps on_lps range_tab_lps trans_idx_mps trans_idx_lps
returns-in-120 c = at_row _ 120 _ c.in-120.is refl

pub returns-in-121 : goal.returns-in-121
unfolding row_of lps_at on_mps on_lps range_tab_lps trans_idx_mps trans_idx_lps
returns-in-121 c = at_row _ 121 _ c.in-121.is refl

pub returns-in-122 : goal.returns-in-122
unfolding row_of lps_at on_mps on_lps range_tab_lps trans_idx_mps trans_idx_lps
returns-in-122 c = at_row _ 122 _ c.in-122.is refl

pub returns-in-123 : goal.returns-in-123
unfolding row_of lps_at on_mps on_lps range_tab_lps trans_idx_mps trans_idx_lps
returns-in-123 c = at_row _ 123 _ c.in-123.is refl

pub returns-in-124 : goal.returns-in-124
unfolding row_of lps_at on_mps on_lps range_tab_lps trans_idx_mps trans_idx_lps
returns-in-124 c = at_row _ 124 _ c.in-124.is refl

pub returns-in-125 : goal.returns-in-125
unfolding row_of lps_at on_mps on_lps range_tab_lps trans_idx_mps trans_idx_lps
returns-in-125 c = at_row _ 125 _ c.in-125.is refl

pub returns-in-126 : goal.returns-in-126
unfolding row_of lps_at on_mps on_lps range_tab_lps trans_idx_mps trans_idx_lps
returns-in-126 c = at_row _ 126 _ c.in-126.is refl

pub returns-in_default : goal.returns-in_default
unfolding row_of lps_at on_mps on_lps range_tab_lps trans_idx_mps trans_idx_lps
returns-in_default c = at_row c.args.ctx 127 _ (omega arith) refl
