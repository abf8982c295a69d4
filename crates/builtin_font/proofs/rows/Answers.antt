use Rattle.builtin_font.specs.Table.{table}
use Rattle.builtin_font.specs.Shapes.{rows_of}
use Rattle.builtin_font.proofs.Characters.{rows_at, no_rows}
use Rattle.builtin_font.proofs.rows.Goals as goal

pub returns-in-32 : goal.returns-in-32
unfolding rows_of table
returns-in-32 c = rows_at _ 32 c.in-32.is

pub returns-in-33 : goal.returns-in-33
unfolding rows_of table
returns-in-33 c = rows_at _ 33 c.in-33.is

pub returns-in-34 : goal.returns-in-34
unfolding rows_of table
returns-in-34 c = rows_at _ 34 c.in-34.is

pub returns-in-35 : goal.returns-in-35
unfolding rows_of table
returns-in-35 c = rows_at _ 35 c.in-35.is

pub returns-in-36 : goal.returns-in-36
unfolding rows_of table
returns-in-36 c = rows_at _ 36 c.in-36.is

pub returns-in-37 : goal.returns-in-37
unfolding rows_of table
returns-in-37 c = rows_at _ 37 c.in-37.is

pub returns-in-38 : goal.returns-in-38
unfolding rows_of table
returns-in-38 c = rows_at _ 38 c.in-38.is

pub returns-in-39 : goal.returns-in-39
unfolding rows_of table
returns-in-39 c = rows_at _ 39 c.in-39.is

pub returns-in-40 : goal.returns-in-40
unfolding rows_of table
returns-in-40 c = rows_at _ 40 c.in-40.is

pub returns-in-41 : goal.returns-in-41
unfolding rows_of table
returns-in-41 c = rows_at _ 41 c.in-41.is

pub returns-in-42 : goal.returns-in-42
unfolding rows_of table
returns-in-42 c = rows_at _ 42 c.in-42.is

pub returns-in-43 : goal.returns-in-43
unfolding rows_of table
returns-in-43 c = rows_at _ 43 c.in-43.is

pub returns-in-44 : goal.returns-in-44
unfolding rows_of table
returns-in-44 c = rows_at _ 44 c.in-44.is

pub returns-in-45 : goal.returns-in-45
unfolding rows_of table
returns-in-45 c = rows_at _ 45 c.in-45.is

pub returns-in-46 : goal.returns-in-46
unfolding rows_of table
returns-in-46 c = rows_at _ 46 c.in-46.is

pub returns-in-47 : goal.returns-in-47
unfolding rows_of table
returns-in-47 c = rows_at _ 47 c.in-47.is

pub returns-in-48 : goal.returns-in-48
unfolding rows_of table
returns-in-48 c = rows_at _ 48 c.in-48.is

pub returns-in-49 : goal.returns-in-49
unfolding rows_of table
returns-in-49 c = rows_at _ 49 c.in-49.is

pub returns-in-50 : goal.returns-in-50
unfolding rows_of table
returns-in-50 c = rows_at _ 50 c.in-50.is

pub returns-in-51 : goal.returns-in-51
unfolding rows_of table
returns-in-51 c = rows_at _ 51 c.in-51.is

pub returns-in-52 : goal.returns-in-52
unfolding rows_of table
returns-in-52 c = rows_at _ 52 c.in-52.is

pub returns-in-53 : goal.returns-in-53
unfolding rows_of table
returns-in-53 c = rows_at _ 53 c.in-53.is

pub returns-in-54 : goal.returns-in-54
unfolding rows_of table
returns-in-54 c = rows_at _ 54 c.in-54.is

pub returns-in-55 : goal.returns-in-55
unfolding rows_of table
returns-in-55 c = rows_at _ 55 c.in-55.is

pub returns-in-56 : goal.returns-in-56
unfolding rows_of table
returns-in-56 c = rows_at _ 56 c.in-56.is

pub returns-in-57 : goal.returns-in-57
unfolding rows_of table
returns-in-57 c = rows_at _ 57 c.in-57.is

pub returns-in-58 : goal.returns-in-58
unfolding rows_of table
returns-in-58 c = rows_at _ 58 c.in-58.is

pub returns-in-59 : goal.returns-in-59
unfolding rows_of table
returns-in-59 c = rows_at _ 59 c.in-59.is

pub returns-in-60 : goal.returns-in-60
unfolding rows_of table
returns-in-60 c = rows_at _ 60 c.in-60.is

pub returns-in-61 : goal.returns-in-61
unfolding rows_of table
returns-in-61 c = rows_at _ 61 c.in-61.is

pub returns-in-62 : goal.returns-in-62
unfolding rows_of table
returns-in-62 c = rows_at _ 62 c.in-62.is

pub returns-in-63 : goal.returns-in-63
unfolding rows_of table
returns-in-63 c = rows_at _ 63 c.in-63.is

pub returns-in-64 : goal.returns-in-64
unfolding rows_of table
returns-in-64 c = rows_at _ 64 c.in-64.is

pub returns-in-65 : goal.returns-in-65
unfolding rows_of table
returns-in-65 c = rows_at _ 65 c.in-65.is

pub returns-in-66 : goal.returns-in-66
unfolding rows_of table
returns-in-66 c = rows_at _ 66 c.in-66.is

pub returns-in-67 : goal.returns-in-67
unfolding rows_of table
returns-in-67 c = rows_at _ 67 c.in-67.is

pub returns-in-68 : goal.returns-in-68
unfolding rows_of table
returns-in-68 c = rows_at _ 68 c.in-68.is

pub returns-in-69 : goal.returns-in-69
unfolding rows_of table
returns-in-69 c = rows_at _ 69 c.in-69.is

pub returns-in-70 : goal.returns-in-70
unfolding rows_of table
returns-in-70 c = rows_at _ 70 c.in-70.is

pub returns-in-71 : goal.returns-in-71
unfolding rows_of table
returns-in-71 c = rows_at _ 71 c.in-71.is

pub returns-in-72 : goal.returns-in-72
unfolding rows_of table
returns-in-72 c = rows_at _ 72 c.in-72.is

pub returns-in-73 : goal.returns-in-73
unfolding rows_of table
returns-in-73 c = rows_at _ 73 c.in-73.is

pub returns-in-74 : goal.returns-in-74
unfolding rows_of table
returns-in-74 c = rows_at _ 74 c.in-74.is

pub returns-in-75 : goal.returns-in-75
unfolding rows_of table
returns-in-75 c = rows_at _ 75 c.in-75.is

pub returns-in-76 : goal.returns-in-76
unfolding rows_of table
returns-in-76 c = rows_at _ 76 c.in-76.is

pub returns-in-77 : goal.returns-in-77
unfolding rows_of table
returns-in-77 c = rows_at _ 77 c.in-77.is

pub returns-in-78 : goal.returns-in-78
unfolding rows_of table
returns-in-78 c = rows_at _ 78 c.in-78.is

pub returns-in-79 : goal.returns-in-79
unfolding rows_of table
returns-in-79 c = rows_at _ 79 c.in-79.is

pub returns-in-80 : goal.returns-in-80
unfolding rows_of table
returns-in-80 c = rows_at _ 80 c.in-80.is

pub returns-in-81 : goal.returns-in-81
unfolding rows_of table
returns-in-81 c = rows_at _ 81 c.in-81.is

pub returns-in-82 : goal.returns-in-82
unfolding rows_of table
returns-in-82 c = rows_at _ 82 c.in-82.is

pub returns-in-83 : goal.returns-in-83
unfolding rows_of table
returns-in-83 c = rows_at _ 83 c.in-83.is

pub returns-in-84 : goal.returns-in-84
unfolding rows_of table
returns-in-84 c = rows_at _ 84 c.in-84.is

pub returns-in-85 : goal.returns-in-85
unfolding rows_of table
returns-in-85 c = rows_at _ 85 c.in-85.is

pub returns-in-86 : goal.returns-in-86
unfolding rows_of table
returns-in-86 c = rows_at _ 86 c.in-86.is

pub returns-in-87 : goal.returns-in-87
unfolding rows_of table
returns-in-87 c = rows_at _ 87 c.in-87.is

pub returns-in-88 : goal.returns-in-88
unfolding rows_of table
returns-in-88 c = rows_at _ 88 c.in-88.is

pub returns-in-89 : goal.returns-in-89
unfolding rows_of table
returns-in-89 c = rows_at _ 89 c.in-89.is

pub returns-in-90 : goal.returns-in-90
unfolding rows_of table
returns-in-90 c = rows_at _ 90 c.in-90.is

pub returns-in-91 : goal.returns-in-91
unfolding rows_of table
returns-in-91 c = rows_at _ 91 c.in-91.is

pub returns-in-92 : goal.returns-in-92
unfolding rows_of table
returns-in-92 c = rows_at _ 92 c.in-92.is

pub returns-in-93 : goal.returns-in-93
unfolding rows_of table
returns-in-93 c = rows_at _ 93 c.in-93.is

pub returns-in-94 : goal.returns-in-94
unfolding rows_of table
returns-in-94 c = rows_at _ 94 c.in-94.is

pub returns-in-95 : goal.returns-in-95
unfolding rows_of table
returns-in-95 c = rows_at _ 95 c.in-95.is

pub returns-in-96 : goal.returns-in-96
unfolding rows_of table
returns-in-96 c = rows_at _ 96 c.in-96.is

pub returns-in-97 : goal.returns-in-97
unfolding rows_of table
returns-in-97 c = rows_at _ 97 c.in-97.is

pub returns-in-98 : goal.returns-in-98
unfolding rows_of table
returns-in-98 c = rows_at _ 98 c.in-98.is

pub returns-in-99 : goal.returns-in-99
unfolding rows_of table
returns-in-99 c = rows_at _ 99 c.in-99.is

pub returns-in-100 : goal.returns-in-100
unfolding rows_of table
returns-in-100 c = rows_at _ 100 c.in-100.is

pub returns-in-101 : goal.returns-in-101
unfolding rows_of table
returns-in-101 c = rows_at _ 101 c.in-101.is

pub returns-in-102 : goal.returns-in-102
unfolding rows_of table
returns-in-102 c = rows_at _ 102 c.in-102.is

pub returns-in-103 : goal.returns-in-103
unfolding rows_of table
returns-in-103 c = rows_at _ 103 c.in-103.is

pub returns-in-104 : goal.returns-in-104
unfolding rows_of table
returns-in-104 c = rows_at _ 104 c.in-104.is

pub returns-in-105 : goal.returns-in-105
unfolding rows_of table
returns-in-105 c = rows_at _ 105 c.in-105.is

pub returns-in-106 : goal.returns-in-106
unfolding rows_of table
returns-in-106 c = rows_at _ 106 c.in-106.is

pub returns-in-107 : goal.returns-in-107
unfolding rows_of table
returns-in-107 c = rows_at _ 107 c.in-107.is

pub returns-in-108 : goal.returns-in-108
unfolding rows_of table
returns-in-108 c = rows_at _ 108 c.in-108.is

pub returns-in-109 : goal.returns-in-109
unfolding rows_of table
returns-in-109 c = rows_at _ 109 c.in-109.is

pub returns-in-110 : goal.returns-in-110
unfolding rows_of table
returns-in-110 c = rows_at _ 110 c.in-110.is

pub returns-in-111 : goal.returns-in-111
unfolding rows_of table
returns-in-111 c = rows_at _ 111 c.in-111.is

pub returns-in-112 : goal.returns-in-112
unfolding rows_of table
returns-in-112 c = rows_at _ 112 c.in-112.is

pub returns-in-113 : goal.returns-in-113
unfolding rows_of table
returns-in-113 c = rows_at _ 113 c.in-113.is

pub returns-in-114 : goal.returns-in-114
unfolding rows_of table
returns-in-114 c = rows_at _ 114 c.in-114.is

pub returns-in-115 : goal.returns-in-115
unfolding rows_of table
returns-in-115 c = rows_at _ 115 c.in-115.is

pub returns-in-116 : goal.returns-in-116
unfolding rows_of table
returns-in-116 c = rows_at _ 116 c.in-116.is

pub returns-in-117 : goal.returns-in-117
unfolding rows_of table
returns-in-117 c = rows_at _ 117 c.in-117.is

pub returns-in-118 : goal.returns-in-118
unfolding rows_of table
returns-in-118 c = rows_at _ 118 c.in-118.is

pub returns-in-119 : goal.returns-in-119
unfolding rows_of table
returns-in-119 c = rows_at _ 119 c.in-119.is

pub returns-in-120 : goal.returns-in-120
unfolding rows_of table
returns-in-120 c = rows_at _ 120 c.in-120.is

pub returns-in-121 : goal.returns-in-121
unfolding rows_of table
returns-in-121 c = rows_at _ 121 c.in-121.is

pub returns-in-122 : goal.returns-in-122
unfolding rows_of table
returns-in-122 c = rows_at _ 122 c.in-122.is

pub returns-in-123 : goal.returns-in-123
unfolding rows_of table
returns-in-123 c = rows_at _ 123 c.in-123.is

pub returns-in-124 : goal.returns-in-124
unfolding rows_of table
returns-in-124 c = rows_at _ 124 c.in-124.is

pub returns-in-125 : goal.returns-in-125
unfolding rows_of table
returns-in-125 c = rows_at _ 125 c.in-125.is

pub returns-in-126 : goal.returns-in-126
unfolding rows_of table
returns-in-126 c = rows_at _ 126 c.in-126.is

pub returns-in_default : goal.returns-in_default
unfolding rows_of table
returns-in_default c = no_rows _ c.in_default.in_default-own.rest
