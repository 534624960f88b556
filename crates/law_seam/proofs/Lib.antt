mod Shifted
mod Behind
mod AtSeam
mod Below
