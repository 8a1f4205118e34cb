-- 01, Refusal numbers: the one list of them, in its rows. Every other definition cites a number by the name that it has here. Assumes nothing.
use Rattle.std.specs.Prelude.{ℕ}

-- 1, 2, 3; Unary, Binary, CompwiseBinary (shapes unequal); detail 0
abbrev pub Unary : ℕ
Unary = 1

abbrev pub Binary : ℕ
Binary = 2

abbrev pub CompwiseBinary : ℕ
CompwiseBinary = 3

-- 4, 5, 6; AddOverflow, SubOverflow, MulOverflow; 0
abbrev pub AddOverflow : ℕ
AddOverflow = 4

abbrev pub SubOverflow : ℕ
SubOverflow = 5

abbrev pub MulOverflow : ℕ
MulOverflow = 6

-- 7, 8; DivByZero, RemZeroDiv; 0
abbrev pub DivByZero : ℕ
DivByZero = 7

abbrev pub RemZeroDiv : ℕ
RemZeroDiv = 8

-- 9, 10; ShlOverflow, ShrOverflow; full count
abbrev pub ShlOverflow : ℕ
ShlOverflow = 9

abbrev pub ShrOverflow : ℕ
ShrOverflow = 10

-- 11; FromEntry; entry named
abbrev pub FromEntry : ℕ
FromEntry = 11

-- 20; SheetTooLong; 0
abbrev pub SheetTooLong : ℕ
SheetTooLong = 20

-- 21, 22; BadMark, CutShort; byte place
abbrev pub BadMark : ℕ
BadMark = 21

abbrev pub CutShort : ℕ
CutShort = 22

-- 23 to 29; BadStage, TooManyEntries, BadNode, BadValue, BadRef, TooDeep, Leftover; byte place
abbrev pub BadStage : ℕ
BadStage = 23

abbrev pub TooManyEntries : ℕ
TooManyEntries = 24

abbrev pub BadNode : ℕ
BadNode = 25

abbrev pub BadValue : ℕ
BadValue = 26

abbrev pub BadRef : ℕ
BadRef = 27

abbrev pub TooDeep : ℕ
TooDeep = 28

abbrev pub Leftover : ℕ
Leftover = 29

-- 30, 31, 32; ResultsSize, NotASetting, SettingType; 0
abbrev pub ResultsSize : ℕ
ResultsSize = 30

abbrev pub NotASetting : ℕ
NotASetting = 31

abbrev pub SettingType : ℕ
SettingType = 32
