mod Held
mod Shapes
mod Whole
