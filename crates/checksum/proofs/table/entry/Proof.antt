-- Each of the 256 entries by computing both sides: an arm gives what eight shift steps make of its own number.
use mathlib.Core.Path.{◌≡◌, sym, ap}
use mathlib.Core.List.{[], ◌∷◌}
use Prim.Native.Nat.{ℕ, zero, suc, ◌≤◌}
use native.Mathlib.Omega.{arith}
use types.Run.{OneOf}
use Rattle.checksum.specs.Checksum.{shifted, shifts}
use Rattle.checksum.proofs.table.entry.Statement.{statement}
use Rattle.checksum.proofs.table.entry.Tie as tie

-- in an arm the byte is the arm's number
own : (n b : ℕ) → b ≡ n → shifts 8 n ≡ shifts 8 b
own n b p = ap (shifts 8) (sym p)

-- past the first n arms it is none of theirs, so at least n
abbrev Missed : ℕ → ℕ → Type 0
Missed zero b = Unit
Missed (suc n) b = Missed n b × (OneOf (n ∷ []) b → ⊥)

missed : (n b : ℕ) → Missed n b → n ≤ b
missed zero b m = omega arith
missed (suc n) b m = omega (arith, missed n b m.0, m.1)

returns-in_default : tie.Need-returns-in_default
unfolding shifts shifted
returns-in_default c =
    let b = c.args.byte in
    let e : b ≡ 255 = omega (arith, missed 255 b c.in_default.in_default-own.rest, c.ranges) in
    own 255 b e

pub entry_spec : {M : Type 1} → statement M
unfolding shifts shifted
entry_spec =
    tie.close
    (tie.spec
    (λ c. own 0 _ c.in-0.is) (λ c. own 1 _ c.in-1.is) (λ c. own 2 _ c.in-2.is) (λ c. own 3 _ c.in-3.is) (λ c. own 4 _ c.in-4.is)
    (λ c. own 5 _ c.in-5.is) (λ c. own 6 _ c.in-6.is) (λ c. own 7 _ c.in-7.is) (λ c. own 8 _ c.in-8.is) (λ c. own 9 _ c.in-9.is)
    (λ c. own 10 _ c.in-10.is) (λ c. own 11 _ c.in-11.is) (λ c. own 12 _ c.in-12.is) (λ c. own 13 _ c.in-13.is) (λ c. own 14 _ c.in-14.is)
    (λ c. own 15 _ c.in-15.is) (λ c. own 16 _ c.in-16.is) (λ c. own 17 _ c.in-17.is) (λ c. own 18 _ c.in-18.is) (λ c. own 19 _ c.in-19.is)
    (λ c. own 20 _ c.in-20.is) (λ c. own 21 _ c.in-21.is) (λ c. own 22 _ c.in-22.is) (λ c. own 23 _ c.in-23.is) (λ c. own 24 _ c.in-24.is)
    (λ c. own 25 _ c.in-25.is) (λ c. own 26 _ c.in-26.is) (λ c. own 27 _ c.in-27.is) (λ c. own 28 _ c.in-28.is) (λ c. own 29 _ c.in-29.is)
    (λ c. own 30 _ c.in-30.is) (λ c. own 31 _ c.in-31.is) (λ c. own 32 _ c.in-32.is) (λ c. own 33 _ c.in-33.is) (λ c. own 34 _ c.in-34.is)
    (λ c. own 35 _ c.in-35.is) (λ c. own 36 _ c.in-36.is) (λ c. own 37 _ c.in-37.is) (λ c. own 38 _ c.in-38.is) (λ c. own 39 _ c.in-39.is)
    (λ c. own 40 _ c.in-40.is) (λ c. own 41 _ c.in-41.is) (λ c. own 42 _ c.in-42.is) (λ c. own 43 _ c.in-43.is) (λ c. own 44 _ c.in-44.is)
    (λ c. own 45 _ c.in-45.is) (λ c. own 46 _ c.in-46.is) (λ c. own 47 _ c.in-47.is) (λ c. own 48 _ c.in-48.is) (λ c. own 49 _ c.in-49.is)
    (λ c. own 50 _ c.in-50.is) (λ c. own 51 _ c.in-51.is) (λ c. own 52 _ c.in-52.is) (λ c. own 53 _ c.in-53.is) (λ c. own 54 _ c.in-54.is)
    (λ c. own 55 _ c.in-55.is) (λ c. own 56 _ c.in-56.is) (λ c. own 57 _ c.in-57.is) (λ c. own 58 _ c.in-58.is) (λ c. own 59 _ c.in-59.is)
    (λ c. own 60 _ c.in-60.is) (λ c. own 61 _ c.in-61.is) (λ c. own 62 _ c.in-62.is) (λ c. own 63 _ c.in-63.is) (λ c. own 64 _ c.in-64.is)
    (λ c. own 65 _ c.in-65.is) (λ c. own 66 _ c.in-66.is) (λ c. own 67 _ c.in-67.is) (λ c. own 68 _ c.in-68.is) (λ c. own 69 _ c.in-69.is)
    (λ c. own 70 _ c.in-70.is) (λ c. own 71 _ c.in-71.is) (λ c. own 72 _ c.in-72.is) (λ c. own 73 _ c.in-73.is) (λ c. own 74 _ c.in-74.is)
    (λ c. own 75 _ c.in-75.is) (λ c. own 76 _ c.in-76.is) (λ c. own 77 _ c.in-77.is) (λ c. own 78 _ c.in-78.is) (λ c. own 79 _ c.in-79.is)
    (λ c. own 80 _ c.in-80.is) (λ c. own 81 _ c.in-81.is) (λ c. own 82 _ c.in-82.is) (λ c. own 83 _ c.in-83.is) (λ c. own 84 _ c.in-84.is)
    (λ c. own 85 _ c.in-85.is) (λ c. own 86 _ c.in-86.is) (λ c. own 87 _ c.in-87.is) (λ c. own 88 _ c.in-88.is) (λ c. own 89 _ c.in-89.is)
    (λ c. own 90 _ c.in-90.is) (λ c. own 91 _ c.in-91.is) (λ c. own 92 _ c.in-92.is) (λ c. own 93 _ c.in-93.is) (λ c. own 94 _ c.in-94.is)
    (λ c. own 95 _ c.in-95.is) (λ c. own 96 _ c.in-96.is) (λ c. own 97 _ c.in-97.is) (λ c. own 98 _ c.in-98.is) (λ c. own 99 _ c.in-99.is)
    (λ c. own 100 _ c.in-100.is) (λ c. own 101 _ c.in-101.is) (λ c. own 102 _ c.in-102.is) (λ c. own 103 _ c.in-103.is) (λ c. own 104 _ c.in-104.is)
    (λ c. own 105 _ c.in-105.is) (λ c. own 106 _ c.in-106.is) (λ c. own 107 _ c.in-107.is) (λ c. own 108 _ c.in-108.is) (λ c. own 109 _ c.in-109.is)
    (λ c. own 110 _ c.in-110.is) (λ c. own 111 _ c.in-111.is) (λ c. own 112 _ c.in-112.is) (λ c. own 113 _ c.in-113.is) (λ c. own 114 _ c.in-114.is)
    (λ c. own 115 _ c.in-115.is) (λ c. own 116 _ c.in-116.is) (λ c. own 117 _ c.in-117.is) (λ c. own 118 _ c.in-118.is) (λ c. own 119 _ c.in-119.is)
    (λ c. own 120 _ c.in-120.is) (λ c. own 121 _ c.in-121.is) (λ c. own 122 _ c.in-122.is) (λ c. own 123 _ c.in-123.is) (λ c. own 124 _ c.in-124.is)
    (λ c. own 125 _ c.in-125.is) (λ c. own 126 _ c.in-126.is) (λ c. own 127 _ c.in-127.is) (λ c. own 128 _ c.in-128.is) (λ c. own 129 _ c.in-129.is)
    (λ c. own 130 _ c.in-130.is) (λ c. own 131 _ c.in-131.is) (λ c. own 132 _ c.in-132.is) (λ c. own 133 _ c.in-133.is) (λ c. own 134 _ c.in-134.is)
    (λ c. own 135 _ c.in-135.is) (λ c. own 136 _ c.in-136.is) (λ c. own 137 _ c.in-137.is) (λ c. own 138 _ c.in-138.is) (λ c. own 139 _ c.in-139.is)
    (λ c. own 140 _ c.in-140.is) (λ c. own 141 _ c.in-141.is) (λ c. own 142 _ c.in-142.is) (λ c. own 143 _ c.in-143.is) (λ c. own 144 _ c.in-144.is)
    (λ c. own 145 _ c.in-145.is) (λ c. own 146 _ c.in-146.is) (λ c. own 147 _ c.in-147.is) (λ c. own 148 _ c.in-148.is) (λ c. own 149 _ c.in-149.is)
    (λ c. own 150 _ c.in-150.is) (λ c. own 151 _ c.in-151.is) (λ c. own 152 _ c.in-152.is) (λ c. own 153 _ c.in-153.is) (λ c. own 154 _ c.in-154.is)
    (λ c. own 155 _ c.in-155.is) (λ c. own 156 _ c.in-156.is) (λ c. own 157 _ c.in-157.is) (λ c. own 158 _ c.in-158.is) (λ c. own 159 _ c.in-159.is)
    (λ c. own 160 _ c.in-160.is) (λ c. own 161 _ c.in-161.is) (λ c. own 162 _ c.in-162.is) (λ c. own 163 _ c.in-163.is) (λ c. own 164 _ c.in-164.is)
    (λ c. own 165 _ c.in-165.is) (λ c. own 166 _ c.in-166.is) (λ c. own 167 _ c.in-167.is) (λ c. own 168 _ c.in-168.is) (λ c. own 169 _ c.in-169.is)
    (λ c. own 170 _ c.in-170.is) (λ c. own 171 _ c.in-171.is) (λ c. own 172 _ c.in-172.is) (λ c. own 173 _ c.in-173.is) (λ c. own 174 _ c.in-174.is)
    (λ c. own 175 _ c.in-175.is) (λ c. own 176 _ c.in-176.is) (λ c. own 177 _ c.in-177.is) (λ c. own 178 _ c.in-178.is) (λ c. own 179 _ c.in-179.is)
    (λ c. own 180 _ c.in-180.is) (λ c. own 181 _ c.in-181.is) (λ c. own 182 _ c.in-182.is) (λ c. own 183 _ c.in-183.is) (λ c. own 184 _ c.in-184.is)
    (λ c. own 185 _ c.in-185.is) (λ c. own 186 _ c.in-186.is) (λ c. own 187 _ c.in-187.is) (λ c. own 188 _ c.in-188.is) (λ c. own 189 _ c.in-189.is)
    (λ c. own 190 _ c.in-190.is) (λ c. own 191 _ c.in-191.is) (λ c. own 192 _ c.in-192.is) (λ c. own 193 _ c.in-193.is) (λ c. own 194 _ c.in-194.is)
    (λ c. own 195 _ c.in-195.is) (λ c. own 196 _ c.in-196.is) (λ c. own 197 _ c.in-197.is) (λ c. own 198 _ c.in-198.is) (λ c. own 199 _ c.in-199.is)
    (λ c. own 200 _ c.in-200.is) (λ c. own 201 _ c.in-201.is) (λ c. own 202 _ c.in-202.is) (λ c. own 203 _ c.in-203.is) (λ c. own 204 _ c.in-204.is)
    (λ c. own 205 _ c.in-205.is) (λ c. own 206 _ c.in-206.is) (λ c. own 207 _ c.in-207.is) (λ c. own 208 _ c.in-208.is) (λ c. own 209 _ c.in-209.is)
    (λ c. own 210 _ c.in-210.is) (λ c. own 211 _ c.in-211.is) (λ c. own 212 _ c.in-212.is) (λ c. own 213 _ c.in-213.is) (λ c. own 214 _ c.in-214.is)
    (λ c. own 215 _ c.in-215.is) (λ c. own 216 _ c.in-216.is) (λ c. own 217 _ c.in-217.is) (λ c. own 218 _ c.in-218.is) (λ c. own 219 _ c.in-219.is)
    (λ c. own 220 _ c.in-220.is) (λ c. own 221 _ c.in-221.is) (λ c. own 222 _ c.in-222.is) (λ c. own 223 _ c.in-223.is) (λ c. own 224 _ c.in-224.is)
    (λ c. own 225 _ c.in-225.is) (λ c. own 226 _ c.in-226.is) (λ c. own 227 _ c.in-227.is) (λ c. own 228 _ c.in-228.is) (λ c. own 229 _ c.in-229.is)
    (λ c. own 230 _ c.in-230.is) (λ c. own 231 _ c.in-231.is) (λ c. own 232 _ c.in-232.is) (λ c. own 233 _ c.in-233.is) (λ c. own 234 _ c.in-234.is)
    (λ c. own 235 _ c.in-235.is) (λ c. own 236 _ c.in-236.is) (λ c. own 237 _ c.in-237.is) (λ c. own 238 _ c.in-238.is) (λ c. own 239 _ c.in-239.is)
    (λ c. own 240 _ c.in-240.is) (λ c. own 241 _ c.in-241.is) (λ c. own 242 _ c.in-242.is) (λ c. own 243 _ c.in-243.is) (λ c. own 244 _ c.in-244.is)
    (λ c. own 245 _ c.in-245.is) (λ c. own 246 _ c.in-246.is) (λ c. own 247 _ c.in-247.is) (λ c. own 248 _ c.in-248.is) (λ c. own 249 _ c.in-249.is)
    (λ c. own 250 _ c.in-250.is) (λ c. own 251 _ c.in-251.is) (λ c. own 252 _ c.in-252.is) (λ c. own 253 _ c.in-253.is) (λ c. own 254 _ c.in-254.is)
    returns-in_default)
